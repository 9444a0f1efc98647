use Rattle.std.proofs.Common.{◌≡◌, ◌+◌, ◌*◌, ◌≤◌, ◌^◌, drop, map}
use Rattle.plan_rows.specs.Rows.{row_view}
use Rattle.romfs_plan.specs.Passes.{places_end}
use Rattle.romfs_plan.proofs.passes.rows_end.Given as goal

abbrev pub invariant-loop-row : goal.invariant-loop-row
invariant-loop-row l = record {
  near : l.at ≤ l.from + l.row-index * 2 ^ 34;
  end : places_end l.at (map row_view (drop l.row-index l.rows)) ≡ places_end l.from (map row_view l.rows);
}
