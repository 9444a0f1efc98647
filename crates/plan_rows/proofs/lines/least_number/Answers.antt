use Rattle.std.proofs.lemmas.Grind.{common_steps}
use Rattle.std.proofs.Common.{arith}
use Rattle.plan_rows.proofs.lines.least_number.Goals as goal

pub returns-then-bad_attribute : goal.returns-then-bad_attribute
returns-then-bad_attribute c = grind (arith, common_steps)
