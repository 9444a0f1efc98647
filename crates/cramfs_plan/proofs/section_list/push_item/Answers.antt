use Rattle.std.proofs.lemmas.Grind.{common_steps}
use Rattle.std.proofs.Common.{arith}
use Rattle.cramfs_plan.proofs.section_list.push_item.Goals as goal

pub returns-in_ok-push_bytes : goal.returns-in_ok-push_bytes
returns-in_ok-push_bytes c = grind (arith, common_steps)
