use Rattle.image_extents.proofs.Walk.{weight}
use Rattle.image_extents.proofs.RomfsWalk.{Walks, forest_at}
use Rattle.image_extents.proofs.romfs_records.add_romfs.Given as goal

abbrev pub invariant-loop-list : goal.invariant-loop-list
invariant-loop-list l = Walks l.b l.root l.records.items l.extents.items l.lists.items

abbrev pub decreases-loop-list : goal.decreases-loop-list
decreases-loop-list l = weight (forest_at l.b) l.lists.items
