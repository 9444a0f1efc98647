use Rattle.std.proofs.Common.{◌-◌, ◌≤◌}
use Rattle.image_compare.specs.Differences.{Passes}
use Rattle.image_compare.proofs.dump.pass_over.Given as goal

abbrev pub invariant-loop-left : goal.invariant-loop-left
invariant-loop-left g l = record {
  within : l.left ≤ l.count;
  passed : Passes (g.R.Read.remaining l.fn.dump) (g.R.Read.remaining l.dump) (l.count - l.left);
}

abbrev pub decreases-loop-left : goal.decreases-loop-left
decreases-loop-left g l = l.left
