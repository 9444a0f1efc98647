use Rattle.std.proofs.Common.{◌≡◌, ◌∙◌, ℕ, List, take, subst, sym, arith}
use Rattle.std.proofs.lemmas.Bool.{true≢false}
use Rattle.image_compare.proofs.Compared.{same_is, same_true}
use Rattle.image_compare.proofs.ComparedBytes.{at_end, nowhere}
use Rattle.image_compare.proofs.comparing.first_difference.Goals as goal

pub returns-then-is_same : goal.returns-then-is_same
returns-then-is_same c = same_is c.args.a.now c.args.b.now c.if-is_same.ensures

pub returns : goal.returns
returns c =
    let a : List ℕ = c.args.a.now in
    let b : List ℕ = c.args.b.now in
    let n : ℕ = c.min-least.result in
    let e : c.loop-at.at ≡ n = omega (arith, c.loop-at.invariant.within, c.loop-at-test.false) in
    let P : ℕ → Type 0 = λ v. take v a ≡ take v b in
    let s : take n a ≡ take n b = subst P e c.loop-at.invariant.same in
    at_end a b n s c.min-least.ensures
    (λ l. true≢false (same_true a b (nowhere a b n s c.min-least.ensures l) ∙ sym c.if-is_same.ensures))
