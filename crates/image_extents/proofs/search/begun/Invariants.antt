use Rattle.std.proofs.Common.{◌<◌, ◌≤◌, ◌-◌, length}
use Rattle.std.specs.List.{AllWithin}
use Rattle.image_extents.specs.declared.extent.Extent.{Extent}
use Rattle.image_extents.proofs.search.begun.Given as goal

abbrev pub invariant-loop-low : goal.invariant-loop-low
invariant-loop-low l = record {
  some : l.low ≤ l.high;
  within : l.high ≤ length l.extents;
  below : AllWithin (λ (x : Extent). x.start < l.limit) l.extents 0 l.low;
  above : AllWithin (λ (x : Extent). l.limit ≤ x.start) l.extents l.high (length l.extents);
}

abbrev pub decreases-loop-low : goal.decreases-loop-low
decreases-loop-low l = l.high - l.low
