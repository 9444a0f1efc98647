-- Names without the zeros at their end.
use Rattle.std.proofs.Common.{◌≡◌, ◌≢◌, ℕ, ◌+◌, ◌-◌, ◌<◌, ◌≤◌, suc, true, false, cond, eqb, List, [], ◌∷◌, ◌++◌, length}
use Rattle.std.proofs.Common.{take, get_or, refl, sym, ap, ◌∙◌, arith}
use Rattle.std.proofs.lemmas.Bool.{ne_eqb, eq-eqb}
use Rattle.std.proofs.lemmas.List.{take_more}
use Rattle.cramfs_format.specs.Inode.{before_rest, without_zeros}

zero_cut : (xs : List ℕ) (y : ℕ) → y ≡ 0 → without_zeros (xs ++ y ∷ []) ≡ without_zeros xs
zero_cut [] y e = rw (eq-eqb y 0 e) refl
zero_cut (x ∷ xs) y e = ap (before_rest x) (zero_cut xs y e)

other_kept : (xs : List ℕ) (y : ℕ) → y ≢ 0 → without_zeros (xs ++ y ∷ []) ≡ xs ++ y ∷ []
other_kept [] y e = rw (ne_eqb y 0 e) refl
other_kept (x ∷ []) y e = rw (other_kept [] y e) refl
other_kept (x ∷ z ∷ xs) y e = rw (other_kept (z ∷ xs) y e) refl

-- the first n bytes, without the last of them if it is a zero
pub zero_less : (xs : List ℕ) (n : ℕ) → 0 < n → n ≤ length xs → get_or xs (n - 1) 0 ≡ 0
    → without_zeros (take n xs) ≡ without_zeros (take (n - 1) xs)
zero_less xs n some l e =
    let m : ℕ = n - 1 in
    let up : m + 1 ≡ n = omega arith in
    let split = take_more xs m 0 (omega arith) in
    ap (λ (v : ℕ). without_zeros (take v xs)) (sym up) ∙ ap without_zeros split ∙ zero_cut (take m xs) (get_or xs m 0) e

-- all of them, if the last is no zero
pub none_less : (xs : List ℕ) (n : ℕ) → 0 < n → n ≤ length xs → (get_or xs (n - 1) 0 ≡ 0 → ⊥)
    → without_zeros (take n xs) ≡ take n xs
none_less xs n some l e =
    let m : ℕ = n - 1 in
    let up : m + 1 ≡ n = omega arith in
    let split = take_more xs m 0 (omega arith) in
    let all : take n xs ≡ take m xs ++ get_or xs m 0 ∷ [] = ap (λ (v : ℕ). take v xs) (sym up) ∙ split in
    ap without_zeros all ∙ other_kept (take m xs) (get_or xs m 0) e ∙ sym all

-- what is left without the zeros at the end is a front
rest_cut : (x : ℕ) (xs w : List ℕ) → take (length w) xs ≡ w → take (length (before_rest x w)) (x ∷ xs) ≡ before_rest x w
rest_cut x xs [] h = elim (eqb x 0) as (λ t. take (length (cond t [] (x ∷ []))) (x ∷ xs) ≡ cond t [] (x ∷ []))
    [ true ↦ refl | false ↦ refl ]
rest_cut x xs (y ∷ ys) h = ap (λ (v : List ℕ). x ∷ v) h

pub zeros_cut : (xs : List ℕ) → take (length (without_zeros xs)) xs ≡ without_zeros xs
zeros_cut [] = refl
zeros_cut (x ∷ xs) = rest_cut x xs (without_zeros xs) (zeros_cut xs)

rest_shorter : (x : ℕ) (xs w : List ℕ) → length w ≤ length xs → length (before_rest x w) ≤ suc (length xs)
rest_shorter x xs [] h =
    elim (eqb x 0) as (λ t. length (cond t [] (x ∷ [])) ≤ suc (length xs)) [ true ↦ omega arith | false ↦ omega arith ]
rest_shorter x xs (y ∷ ys) h = omega (arith, h)

pub zeros_shorter : (xs : List ℕ) → length (without_zeros xs) ≤ length xs
zeros_shorter [] = omega arith
zeros_shorter (x ∷ xs) = rest_shorter x xs (without_zeros xs) (zeros_shorter xs)
