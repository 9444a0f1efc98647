use Rattle.std.proofs.lemmas.Grind.{common_steps}
use Rattle.std.proofs.Common.{arith}
use Rattle.plan_rows.proofs.files.own_target.Goals as goal

pub returns-in-Hard : goal.returns-in-Hard
returns-in-Hard c = grind (arith, common_steps)
