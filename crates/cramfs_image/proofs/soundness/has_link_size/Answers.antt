use Rattle.std.proofs.lemmas.Grind.{common_steps}
use Rattle.std.proofs.Common.{arith}
use Rattle.cramfs_image.proofs.soundness.has_link_size.Goals as goal

pub returns-then-size-ge1-clause-fits : goal.returns-then-size-ge1-clause-fits
returns-then-size-ge1-clause-fits c = grind (arith, common_steps)
