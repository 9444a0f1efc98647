use Rattle.std.proofs.Common.{◌≤◌, ◌-◌, length}
use Rattle.image_extents.proofs.Chain.{Chained}
use Rattle.image_extents.proofs.order.are_apart.Given as goal

abbrev pub invariant-loop-i : goal.invariant-loop-i
invariant-loop-i l = record { one : 1 ≤ l.i; chained : Chained l.extents l.i }

abbrev pub decreases-loop-i : goal.decreases-loop-i
decreases-loop-i l = length l.extents - l.i
