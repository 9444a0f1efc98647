use Rattle.std.proofs.Common.{◌≡◌, ◌+◌, ◌*◌, ◌^◌, ◌++◌, drop, map}
use Rattle.plan_rows.specs.Rows.{row_view}
use Rattle.cramfs_plan.specs.Entries.{entry_view}
use Rattle.cramfs_plan.specs.Passes.{Walk, first_walk, walked, after_rows}
use Rattle.cramfs_plan.specs.Placers.{StandsAt, IsNear}
use Rattle.cramfs_plan.proofs.walk.place_rows.Given as goal

abbrev pub invariant-loop-i : goal.invariant-loop-i
invariant-loop-i l = record {
  near : IsNear (2 ^ 24 + 2 ^ 7 + l.i * 2 ^ 26) l.placer;
  walk :
      (w : Walk) × StandsAt w l.placer
      × (map entry_view l.entries.items ++ walked l.order w (map row_view (drop l.i l.rows)) (drop l.i l.lens)
      ≡ walked l.order (first_walk l.root) (map row_view l.rows) l.lens)
      × (after_rows w (map row_view (drop l.i l.rows)) (drop l.i l.lens)
      ≡ after_rows (first_walk l.root) (map row_view l.rows) l.lens);
}
