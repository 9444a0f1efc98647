use Rattle.std.proofs.Common.{ℕ, ◌-◌, ◌≤◌, ◌<◌}
use Rattle.record_forest.specs.Known.{AreKnown}
use Rattle.cramfs_image.specs.Phases.{IsWhole}
use Rattle.cramfs_image.proofs.soundness.whole_up_to.Given as goal

abbrev pub invariant-loop-next : goal.invariant-loop-next
invariant-loop-next l = record {
  start : l.start ≤ l.first;
  next : l.first ≤ l.next;
  whole : (n : ℕ) → l.start ≤ n → n < l.next → IsWhole l.b.order l.b.bytes.now n;
  known : AreKnown (IsWhole l.b.order l.b.bytes.now) l.known;
}

abbrev pub decreases-loop-next : goal.decreases-loop-next
decreases-loop-next l = l.end - l.next
