use Rattle.std.proofs.Common.{arith}
use Rattle.std.proofs.lemmas.Grind.{common_steps}
use Rattle.romfs_layout.specs.Layout as layout
use Rattle.romfs_plan.proofs.places.row_place.Goals as goal

pub returns-after-inode-eq0-clause-place : goal.returns-after-inode-eq0-clause-place
unfolding layout.place_of layout.data_align
returns-after-inode-eq0-clause-place c = grind (arith, common_steps)
