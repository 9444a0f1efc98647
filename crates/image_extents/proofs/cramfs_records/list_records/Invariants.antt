use Rattle.std.specs.List.{AllByRecursion as Every}
use Rattle.image_extents.specs.declared.extent.Record.{Record}
use Rattle.image_extents.specs.Found.{IsWithin}
use Rattle.image_extents.proofs.Walk.{weight}
use Rattle.image_extents.proofs.CramfsWalk.{Walks, forest_at}
use Rattle.image_extents.proofs.cramfs_records.list_records.Given as goal

abbrev pub invariant-loop-list : goal.invariant-loop-list
invariant-loop-list l = record {
  walks : Walks l.order l.b l.records.items l.lists.items;
  within : Every (λ (x : Record). IsWithin l.order l.b x.offset) l.records.items;
}

abbrev pub decreases-loop-list : goal.decreases-loop-list
decreases-loop-list l = weight (forest_at l.order l.b) l.lists.items
