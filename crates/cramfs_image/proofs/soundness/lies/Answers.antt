use Rattle.std.proofs.lemmas.Grind.{common_steps}
use Rattle.std.proofs.Common.{arith}
use Rattle.cramfs_image.proofs.soundness.lies.Goals as goal

pub returns-then-start-ge76 : goal.returns-then-start-ge76
returns-then-start-ge76 c = grind (arith, common_steps)
