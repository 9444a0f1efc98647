use Rattle.std.proofs.lemmas.Grind.{common_steps}
use Rattle.std.proofs.Common.{arith}
use Rattle.cramfs_image.proofs.soundness.is_whole.Goals as goal

pub returns-then-is_plain : goal.returns-then-is_plain
returns-then-is_plain c = grind (arith, common_steps)
