-- What holds of results, and contents of the planned sizes.
use Rattle.std.proofs.Common.{◌≡◌, ℕ, suc, List, [], ◌∷◌, map, length, refl, ap, ◌∙◌, arith}
use Rattle.std.specs.Prelude.{Result, Ok, Err, OnOk, OnErr}
use Rattle.image_stream.specs.Outcomes.{AreSized}

pub ok_weaker : {A E : Type 0} {P Q : Type 0} (r : Result A E) → (P → Q) → OnOk r P → OnOk r Q
ok_weaker (Ok a) f h = f h
ok_weaker (Err e) f h = tt

pub ok_both : {A E : Type 0} {P Q R : Type 0} (r : Result A E) → (P → Q → R) → OnOk r P → OnOk r Q → OnOk r R
ok_both (Ok a) f h k = f h k
ok_both (Err e) f h k = tt

pub err_weaker : {A E : Type 0} {P Q : Type 0} (r : Result A E) → (P → Q) → OnErr r P → OnErr r Q
err_weaker (Ok a) f h = tt
err_weaker (Err e) f h = f h

-- contents of the planned sizes
pub sizes_are : (sizes : List ℕ) (cs : List (List ℕ)) → length cs ≡ length sizes → AreSized sizes cs
    → map length cs ≡ sizes
sizes_are [] [] n h = refl
sizes_are [] (c ∷ cs) n h = absurd (omega arith)
sizes_are (x ∷ xs) [] n h = absurd (omega arith)
sizes_are (x ∷ xs) (c ∷ cs) n h =
    ap (λ (k : ℕ). k ∷ map length cs) (h 0 (omega arith))
    ∙ ap (λ (ks : List ℕ). x ∷ ks) (sizes_are xs cs (omega (arith, n)) (λ k l. h (suc k) (omega (arith, l))))
