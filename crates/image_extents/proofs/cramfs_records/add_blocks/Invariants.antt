use Rattle.std.proofs.Common.{◌≡◌, ◌+◌, ◌-◌, ◌*◌}
use Rattle.image_extents.specs.Found.{with_blocks}
use Rattle.image_extents.proofs.cramfs_records.add_blocks.Given as goal

abbrev pub invariant-pointers : goal.invariant-pointers
invariant-pointers l =
    with_blocks l.joined l.order l.b l.owner l.extents.items (l.count - l.i) (l.table + 4 * l.i)
    (l.size - 4096 * l.i) (4096 * l.i)
    ≡ with_blocks l.joined l.order l.b l.owner l.fn.extents.items l.count l.table l.size 0
