-- The pieces of a text, one after the other.
use Rattle.std.proofs.Common.{◌≡◌, ◌+◌, ◌-◌, ◌<◌, ℕ, Bool, true, false, eqb, List, [], ◌∷◌, ◌++◌, length, take, drop}
use Rattle.std.proofs.Common.{get_or, refl, sym, ap, ◌∙◌, arith, get_or-take, length-take}
use Rattle.std.proofs.lemmas.List.{take-append-drop, drop_more, take_rest, get_or_default}
use Rattle.std.proofs.lemmas.List.Splits.{slice_split_none, slice_split_at}
use Rattle.std.specs.List.{All}
use Rattle.memchr.specs.Find.{Nowhere, NoneBefore, Passes, is_byte}
use Rattle.manifest.specs.Texts.{pieces}

not_true : (b : Bool) → (b ≡ true → ⊥) → b ≡ false
not_true true h = absurd (h refl)
not_true false h = refl

pub cut_none : (c : ℕ) (xs : List ℕ) → Nowhere (Passes (is_byte c) xs) 0 (length xs) → pieces c xs ≡ xs ∷ []
cut_none c xs h =
    slice_split_none (λ b. eqb b c) xs
    (λ k d l. not_true (eqb (get_or xs k d) c)
    (λ e. h k (omega arith) l (ap (λ (x : ℕ). eqb x c) (get_or_default xs k 0 d l) ∙ e)))

pub cut_some : (c i : ℕ) (xs : List ℕ) → NoneBefore (Passes (is_byte c) xs) 0 (length xs) i → Passes (is_byte c) xs i
    → pieces c xs ≡ take i xs ∷ pieces c (take (length xs - (i + 1)) (drop (i + 1) xs))
cut_some c i xs h p =
    let high = h.high in
    let front : All (λ x. eqb x c ≡ false) (take i xs) = λ k d l.
    let m : k < i = omega (arith, length-take i xs) in
    not_true (eqb (get_or (take i xs) k d) c)
    (λ e. h.before k (omega arith) m (ap (λ (x : ℕ). eqb x c)
    (get_or_default xs k 0 d (omega arith) ∙ sym (get_or-take i xs k d m)) ∙ e)) in
    let whole : xs ≡ take i xs ++ get_or xs i 0 ∷ drop (i + 1) xs =
    sym (take-append-drop i xs) ∙ ap (λ (y : List ℕ). take i xs ++ y) (drop_more xs i 0 high) in
    ap (pieces c) whole ∙ slice_split_at (λ b. eqb b c) (take i xs) (get_or xs i 0) (drop (i + 1) xs) front p
    ∙ ap (λ (y : List ℕ). take i xs ∷ pieces c y) (sym (take_rest xs (i + 1)))
