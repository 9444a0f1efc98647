use Rattle.std.proofs.lemmas.Grind.{common_steps}
use Rattle.std.proofs.Common.{arith}
use Rattle.plan_rows.proofs.least.lesser.Goals as goal

pub returns-then-beside : goal.returns-then-beside
returns-then-beside c = grind (arith, common_steps)

pub returns-else-beside : goal.returns-else-beside
returns-else-beside c = grind (arith, common_steps)
