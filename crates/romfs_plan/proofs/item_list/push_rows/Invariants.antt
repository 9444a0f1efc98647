use Rattle.std.proofs.Common.{◌≡◌, ◌++◌, drop, map, length, replicate}
use Rattle.manifest_layout.specs.Views.{item_view}
use Rattle.plan_rows.specs.Rows.{row_view}
use Rattle.romfs_layout.specs.Items.{item_of}
use Rattle.romfs_plan.specs.Headers.{headers_of, noted}
use Rattle.romfs_plan.proofs.item_list.push_rows.Given as goal

abbrev pub invariant-loop-i : goal.invariant-loop-i
invariant-loop-i l = record {
  many : length l.dirs ≡ 66;
  found : map item_view l.found.items
      ++ map item_of (headers_of (noted l.lines) l.dirs (map row_view (drop l.i l.rows)) (drop l.i l.places))
      ≡ map item_view l.fn.found.items ++ map item_of
      (headers_of (noted l.lines) (replicate 66 l.root) (map row_view l.rows) l.places);
}
