use Rattle.std.proofs.Common.{◌≡◌, ◌+◌, ◌*◌, ◌≤◌, ◌^◌, ◌++◌, drop, map}
use Rattle.plan_rows.specs.Rows.{row_view}
use Rattle.romfs_plan.specs.Passes.{places}
use Rattle.romfs_plan.proofs.passes.row_places.Given as goal

abbrev pub invariant-loop-row : goal.invariant-loop-row
invariant-loop-row l = record {
  near : l.at ≤ l.from + l.row-index * 2 ^ 34;
  found : l.found.items ++ places l.at (map row_view (drop l.row-index l.rows)) ≡ places l.from (map row_view l.rows);
}
