use Rattle.std.proofs.lemmas.Grind.{common_steps}
use Rattle.std.proofs.Common.{arith}
use Rattle.cramfs_image.proofs.soundness.fits.Goals as goal

pub returns-then-at-end : goal.returns-then-at-end
returns-then-at-end c = grind (arith, common_steps)
