use Rattle.std.proofs.Common.{arith}
use Rattle.std.proofs.lemmas.Grind.{common_steps}
use Rattle.romfs_format.specs.Refers.{following, heads_itself}
use Rattle.romfs_image.proofs.accessible.Accessible.record_after.Goals as goal

pub returns-else-at-self : goal.returns-else-at-self
unfolding following heads_itself
returns-else-at-self c = grind (arith, common_steps)
