use Rattle.std.proofs.Common.{◌≡◌, ◌*◌, length, take}
use Rattle.cramfs_layout.specs.Layout.{pointers}
use Rattle.cramfs_write.proofs.record.put_pointers.Given as goal

abbrev pub invariant-loop-i : goal.invariant-loop-i
invariant-loop-i l =
    (at : l.at ≡ 4 * l.i) × (length : length l.out ≡ length l.fn.out) × (take l.at l.out ≡ pointers l.order l.place l.i)
