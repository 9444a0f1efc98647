use Rattle.std.proofs.Common.{◌≡◌, drop, map, ℕ}
use Rattle.plan_rows.specs.Rows.{row_view}
use Rattle.romfs_layout.specs.Layout.{place_with}
use Rattle.romfs_plan.specs.Headers.{noted, placed_of}
use Rattle.romfs_plan.proofs.item_list.lines_of.Given as goal

abbrev pub invariant-loop-i : goal.invariant-loop-i
invariant-loop-i l =
    (line : ℕ) → noted l.lines line ≡ place_with (placed_of (map row_view (drop l.i l.rows)) (drop l.i l.places)) line
