use Rattle.std.proofs.lemmas.Grind.{common_steps}
use Rattle.std.proofs.Common.{arith}
use Rattle.cramfs_image.proofs.soundness.is_plain.Goals as goal

pub returns-then-pointer-eq1 : goal.returns-then-pointer-eq1
returns-then-pointer-eq1 c = grind (arith, common_steps)
