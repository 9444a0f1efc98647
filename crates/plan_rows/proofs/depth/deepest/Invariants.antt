use Rattle.std.proofs.Common.{◌≡◌, max, drop, map}
use Rattle.plan_rows.specs.Rows.{deepest, row_view}
use Rattle.plan_rows.proofs.depth.deepest.Given as goal

abbrev pub invariant-loop-row : goal.invariant-loop-row
invariant-loop-row l = max l.depth (deepest (map row_view (drop l.row-index l.rows))) ≡ deepest (map row_view l.rows)
