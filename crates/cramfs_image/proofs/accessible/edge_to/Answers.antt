use Rattle.std.proofs.lemmas.Grind.{common_steps}
use Rattle.std.proofs.Common.{arith}
use Rattle.cramfs_image.proofs.accessible.edge_to.Goals as goal

pub returns-else-which-end-clause-target : goal.returns-else-which-end-clause-target
returns-else-which-end-clause-target c = grind (arith, common_steps)
