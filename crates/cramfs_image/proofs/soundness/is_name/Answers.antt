use Rattle.std.proofs.lemmas.Grind.{common_steps}
use Rattle.std.proofs.Common.{arith}
use Rattle.cramfs_image.proofs.soundness.is_name.Goals as goal

pub returns-then-not-contains : goal.returns-then-not-contains
returns-then-not-contains c = grind (arith, common_steps)
