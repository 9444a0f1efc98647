use Rattle.std.proofs.lemmas.Grind.{common_steps}
use Rattle.std.proofs.Common.{arith}
use Rattle.formats.proofs.reach.reach_of.Goals as goal

pub returns-then-begins : goal.returns-then-begins
returns-then-begins c = grind (arith, common_steps)
