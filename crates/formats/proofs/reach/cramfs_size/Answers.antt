use Rattle.std.proofs.lemmas.Grind.{common_steps}
use Rattle.std.proofs.Common.{arith}
use Rattle.formats.proofs.reach.cramfs_size.Goals as goal

pub returns : goal.returns
returns c = grind (arith, common_steps)

pub returns-then-has_size : goal.returns-then-has_size
returns-then-has_size c = grind (arith, common_steps)
