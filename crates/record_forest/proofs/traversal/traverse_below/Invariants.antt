use Rattle.std.proofs.Common.{◌+◌, ◌-◌, ◌*◌, ◌≤◌, length, reverse}
use Rattle.std.specs.List.{All}
use Rattle.record_forest.specs.Known.{AreKnown}
use Rattle.record_forest.proofs.Whole.{Whole}
use Rattle.record_forest.proofs.Visited.{Visits}
use Rattle.record_forest.proofs.traversal.traverse_below.Given as goal

abbrev pub invariant-references : goal.invariant-references
invariant-references g l = record {
  whole : Whole (g.R.Records.references l.records) (g.R.Records.sound l.records)
      (g.R.Records.faulty l.records) l.most l.rows.items (reverse l.stack.items) l.count l.noted l.twice;
  visits : Visits l.visited l.rows.items;
  known : AreKnown (g.R.Records.well l.records) l.known;
  deep : All (λ x. x.depth ≤ length l.rows.items) l.stack.items;
}

abbrev pub decreases-references : goal.decreases-references
decreases-references g l = 2 * (l.most - l.count) + length l.stack.items
