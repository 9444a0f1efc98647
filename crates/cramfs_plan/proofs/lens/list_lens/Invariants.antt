use Rattle.std.proofs.Common.{◌≡◌, ℕ, length, drop, map, replicate}
use Rattle.std.specs.Prelude.{reverse}
use Rattle.plan_rows.specs.Rows.{row_view}
use Rattle.cramfs_plan.specs.Passes.{lens_of, own_lens}
use Rattle.cramfs_plan.proofs.lens.list_lens.Given as goal

abbrev pub invariant-loop-i : goal.invariant-loop-i
invariant-loop-i l = record {
  many : length l.lens ≡ 66;
  lens : l.lens ≡ lens_of (replicate {A = ℕ} 66 0) (map row_view (drop l.i l.rows));
  own : reverse l.own.items ≡ own_lens (replicate {A = ℕ} 66 0) (map row_view (drop l.i l.rows));
}
