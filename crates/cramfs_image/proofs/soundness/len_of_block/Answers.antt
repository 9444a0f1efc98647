use Rattle.std.proofs.lemmas.Grind.{common_steps}
use Rattle.std.proofs.Common.{arith}
use Rattle.cramfs_image.proofs.soundness.len_of_block.Goals as goal

pub returns : goal.returns
returns c = grind (arith, common_steps)
