use Rattle.std.proofs.Common.{◌≡◌, ◌+◌, ◌*◌, ◌≤◌, drop, map}
use Rattle.plan_rows.specs.Rows.{row_view}
use Rattle.romfs_plan.specs.Rows.{header_count}
use Rattle.romfs_plan.proofs.size.header_count.Given as goal

abbrev pub invariant-loop-row : goal.invariant-loop-row
invariant-loop-row l = record {
  few : l.count ≤ l.row-index * 3;
  count : l.count + header_count (map row_view (drop l.row-index l.rows)) ≡ header_count (map row_view l.rows);
}
