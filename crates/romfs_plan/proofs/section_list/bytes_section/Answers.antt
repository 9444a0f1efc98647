use Rattle.std.proofs.lemmas.Grind.{common_steps}
use Rattle.std.proofs.Common.{arith}
use Rattle.romfs_plan.proofs.section_list.bytes_section.Goals as goal

pub returns : goal.returns
returns c = grind (arith, common_steps)

pub returns-then-item-eq0 : goal.returns-then-item-eq0
returns-then-item-eq0 c = grind (arith, common_steps)
