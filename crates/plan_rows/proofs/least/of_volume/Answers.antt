use Rattle.std.proofs.lemmas.Grind.{common_steps}
use Rattle.std.proofs.Common.{arith}
use Rattle.plan_rows.proofs.least.of_volume.Goals as goal

pub returns-else-is_long_volume : goal.returns-else-is_long_volume
returns-else-is_long_volume c = grind (arith, common_steps)

pub returns-then-is_long_volume : goal.returns-then-is_long_volume
returns-then-is_long_volume c = grind (arith, common_steps)
