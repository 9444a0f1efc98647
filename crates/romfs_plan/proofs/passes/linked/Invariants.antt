use Rattle.std.proofs.Common.{◌≡◌, length, drop, map, replicate, ℕ}
use Rattle.std.specs.Prelude.{reverse}
use Rattle.plan_rows.specs.Rows.{row_view}
use Rattle.romfs_plan.specs.Passes.{heads_of, places_of}
use Rattle.romfs_plan.proofs.passes.linked.Given as goal

abbrev pub invariant-loop-i : goal.invariant-loop-i
invariant-loop-i l = record {
  many : length l.heads ≡ 66;
  heads : l.heads ≡ heads_of (replicate {A = ℕ} 66 0) (map row_view (drop l.i l.rows)) (drop l.i l.places);
  found : reverse l.found.items ≡ places_of (replicate {A = ℕ} 66 0) (map row_view (drop l.i l.rows))
      (drop l.i l.places);
}
