use Rattle.std.proofs.Common.{arith}
use Rattle.std.proofs.lemmas.Grind.{common_steps}
use Rattle.romfs_format.specs.Refers.{list_of, heads_itself}
use Rattle.romfs_image.proofs.accessible.Accessible.list_at.Goals as goal

pub returns-then-first-self : goal.returns-then-first-self
unfolding list_of heads_itself
returns-then-first-self c = grind (arith, common_steps)

pub returns-else-at-self : goal.returns-else-at-self
unfolding list_of heads_itself
returns-else-at-self c = grind (arith, common_steps)
