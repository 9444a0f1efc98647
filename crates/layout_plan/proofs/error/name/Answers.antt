use Rattle.std.proofs.lemmas.Grind.{common_steps}
use Rattle.std.proofs.Common.{arith}
use Rattle.layout_plan.proofs.error.name.Goals as goal

pub returns-in-4 : goal.returns-in-4
returns-in-4 c = grind (arith, common_steps)
