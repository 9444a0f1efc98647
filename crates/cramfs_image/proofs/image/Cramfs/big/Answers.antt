use Rattle.std.proofs.lemmas.Grind.{common_steps}
use Rattle.std.proofs.Common.{arith}
use Rattle.cramfs_image.proofs.image.Cramfs.big.Goals as goal

pub returns-in-Big : goal.returns-in-Big
returns-in-Big c = grind (arith, common_steps)
