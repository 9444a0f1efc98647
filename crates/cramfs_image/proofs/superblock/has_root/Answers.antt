use Rattle.std.proofs.lemmas.Grind.{common_steps}
use Rattle.std.proofs.Common.{arith}
use Rattle.cramfs_image.proofs.superblock.has_root.Goals as goal

pub returns-clause-root : goal.returns-clause-root
returns-clause-root c = grind (arith, common_steps)
