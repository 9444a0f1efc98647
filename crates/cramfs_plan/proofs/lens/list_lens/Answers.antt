use Rattle.std.proofs.Common.{◌≡◌, ◌+◌, ◌-◌, [], ◌∷◌, ℕ, suc, ◌<◌, length, refl, get_or, drop, map, replicate, sym, ap}
use Rattle.std.proofs.Common.{◌∙◌, arith}
use Rattle.std.specs.Prelude.{reverse, slice_index, slice_set}
use Rattle.std.proofs.Math.Seq.{drop-cons}
use Rattle.std.proofs.lemmas.List.{reverse-append, length-set}
use Rattle.plan_rows.specs.Rows.{row_view}
use Rattle.cramfs_plan.specs.Passes.{lens_of, lens_with, own_lens}
use Rattle.cramfs_plan.proofs.Placing.{no_row}
use Rattle.cramfs_plan.proofs.Measuring.{longer_fits}
use Rattle.cramfs_plan.proofs.lens.list_lens.Goals as goal

pub overflow_add-longer : goal.overflow_add-longer
overflow_add-longer c =
    longer_fits c.args.rows.now c.loop-i.lens c.loop-i.i _ _ c.entry_len.result c.requires.narrow c.requires.few
    c.loop-i.invariant.lens refl c.entry_len.ensures.short

pub loop-i-preserved : goal.loop-i-preserved
loop-i-preserved c =
    let rs = c.args.rows.now in
    let ls = c.loop-i.lens in
    let i = c.loop-i.i - 1 in
    let r = get_or rs i no_row in
    let t = c.loop-i-test.true in
    let a = c.loop-i.auto.i in
    let next : suc i ≡ c.loop-i.i = omega arith in
    let here : i < length rs = omega arith in
    let rest : drop i rs ≡ r ∷ drop c.loop-i.i rs = drop-cons rs i no_row here ∙ ap (λ k. r ∷ drop k rs) next in
    record {
      lens = ap (λ n. slice_set (slice_set ls (r.depth + 1) 0) r.depth
          (slice_index ls r.depth + n)) c.entry_len.ensures.len
          ∙ ap (λ v. lens_with v (row_view r)) c.loop-i.invariant.lens
          ∙ sym (ap (λ v. lens_of (replicate {A = ℕ} 66 0) (map row_view v)) rest);
      many = length-set _ _ _ ∙ length-set _ _ _ ∙ c.loop-i.invariant.many;
      own = ap reverse c.in_ok-push.ensures.items
          ∙ reverse-append c.loop-i.own.items (slice_index ls (r.depth + 1) ∷ [])
          ∙ ap (λ v. slice_index ls (r.depth + 1) ∷ v) c.loop-i.invariant.own
          ∙ ap (λ v. slice_index v (r.depth + 1)
          ∷ own_lens (replicate {A = ℕ} 66 0) (map row_view (drop c.loop-i.i rs))) c.loop-i.invariant.lens
          ∙ sym (ap (λ v. own_lens (replicate {A = ℕ} 66 0) (map row_view v)) rest);
    }
