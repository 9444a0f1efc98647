use Rattle.std.proofs.Common.{◌≡◌, ℕ, List, length, take, ap, sym, ◌∙◌, subst, arith}
use Rattle.std.specs.Prelude.{slice_index}
use Rattle.std.specs.Ordering.{nat_cmp}
use Rattle.std.proofs.lemmas.List.{take_more_same}
use Rattle.image_compare.specs.Directories.{way_at}
use Rattle.image_compare.specs.Rows.{row_path}
use Rattle.image_compare.proofs.Directed.{front_below}
use Rattle.image_compare.proofs.Ordered.{differ_at, shorter, same_front}
use Rattle.image_compare.proofs.order.compare.Goals as goal

pub loop-at-init : goal.loop-at-init
loop-at-init c = record {
  same = λ ws h.
      let a : List ℕ = row_path ws c.args.one.now in
      let b : List ℕ = row_path ws c.args.other.now in
      let w : List ℕ = way_at ws c.meeting.result in
      let P : ℕ → Type 0 = λ v. take v a ≡ take v b in
      subst P (sym (c.len_at-from.ensures.size ws h))
      (same_front w a b (front_below w _ c.args.one.now.name.now (c.meeting.ensures.one ws h))
      (front_below w _ c.args.other.now.name.now (c.meeting.ensures.other ws h)));
}

pub returns-then-x-y : goal.returns-then-x-y
returns-then-x-y c = λ ws h.
    let a : List ℕ = row_path ws c.args.one.now in
    let b : List ℕ = row_path ws c.args.other.now in
    let i = c.path_len-len.ensures ws h in
    let j = c.path_len-beside.ensures ws h in
    let x : c.byte_of-x.result ≡ slice_index a c.loop-at.at = c.byte_of-x.ensures ws h in
    let y : c.byte_of-y.result ≡ slice_index b c.loop-at.at = c.byte_of-y.ensures ws h in
    let k = c.loop-at-test.true in
    let m = c.min-at-end.ensures in
    c.cmp.ensures ∙ (ap (λ (v : ℕ). nat_cmp v c.byte_of-y.result) x
    ∙ (ap (λ (v : ℕ). nat_cmp (slice_index a c.loop-at.at) v) y
    ∙ sym (differ_at a b c.loop-at.at (omega (arith, i, j, k, m)) (omega (arith, i, j, k, m))
    (c.loop-at.invariant.same ws h) (λ e. c.if-x-y.true (x ∙ (e ∙ sym y))))))

pub loop-at-preserved : goal.loop-at-preserved
loop-at-preserved c = record {
  same = λ ws h.
      let a : List ℕ = row_path ws c.args.one.now in
      let b : List ℕ = row_path ws c.args.other.now in
      let i = c.path_len-len.ensures ws h in
      let j = c.path_len-beside.ensures ws h in
      let x : c.byte_of-x.result ≡ slice_index a c.loop-at.at = c.byte_of-x.ensures ws h in
      let y : c.byte_of-y.result ≡ slice_index b c.loop-at.at = c.byte_of-y.ensures ws h in
      let k = c.loop-at-test.true in
      let m = c.min-at-end.ensures in
      take_more_same a b c.loop-at.at 0 (omega (arith, i, j, k, m)) (omega (arith, i, j, k, m))
      (c.loop-at.invariant.same ws h) (sym x ∙ (c.if-x-y.false ∙ y));
}

pub returns : goal.returns
returns c = λ ws h.
    let a : List ℕ = row_path ws c.args.one.now in
    let b : List ℕ = row_path ws c.args.other.now in
    let i = c.path_len-len.ensures ws h in
    let j = c.path_len-beside.ensures ws h in
    let P : ℕ → Type 0 = λ v. take v a ≡ take v b in
    c.cmp-2.ensures ∙ (ap (λ (v : ℕ). nat_cmp v c.path_len-beside.result) i
    ∙ (ap (λ (v : ℕ). nat_cmp (length a) v) j
    ∙ sym (shorter a b c.loop-at.at (omega (arith, i, j, c.min-at-end.ensures, c.loop-at-test.false))
    (c.loop-at.invariant.same ws h))))
