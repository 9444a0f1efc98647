use Rattle.std.proofs.Common.{◌≡◌, take}
use Rattle.image_extents.specs.Found.{with_records}
use Rattle.image_extents.proofs.cramfs_records.add_extents.Given as goal

-- the extents of the records so far
abbrev pub invariant-loop-number : goal.invariant-loop-number
invariant-loop-number l = l.extents.items
    ≡ with_records l.joined l.order l.b l.records l.fn.extents.items 0 (take l.number l.records)
