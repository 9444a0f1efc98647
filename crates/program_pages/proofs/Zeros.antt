-- Bytes that are all zeros.
use Rattle.std.proofs.Common.{◌≡◌, ◌≢◌, ℕ, zero, suc, ◌+◌, ◌-◌, ◌<◌, ◌≤◌, true, false, eqb, List, [], ◌∷◌, length, take}
use Rattle.std.proofs.Common.{drop, length-drop}
use Rattle.std.proofs.Common.{if◌then◌else◌, refl, sym, ap, ◌∙◌, arith}
use Rattle.std.proofs.lemmas.Bool.{eq-eqb, ne_eqb}
use Rattle.std.specs.Prelude.{slice_index}
use Rattle.rom_fields.specs.Words.{part_of}
use Rattle.program_pages.specs.Physmem.{begins_with_zeros}

one_more : (n m x : ℕ) (xs : List ℕ) → n ≡ suc m → x ≡ 0 → begins_with_zeros n (x ∷ xs) ≡ begins_with_zeros m xs
one_more n m x xs e z = rw (e, eq-eqb x 0 z) refl

one_other : (n m x : ℕ) (xs : List ℕ) → n ≡ suc m → x ≢ 0 → begins_with_zeros n (x ∷ xs) ≡ false
one_other n m x xs e z = rw (e, ne_eqb x 0 z) refl

-- the bytes from i on, if the i-th is a zero, and if it is not
pub zeros_on : (b : List ℕ) (i : ℕ) → i < length b → slice_index b i ≡ 0
    → begins_with_zeros (length b - (i + 1)) (drop (i + 1) b) ≡ begins_with_zeros (length b - i) (drop i b)
zeros_on [] i l z = absurd (omega arith)
zeros_on (x ∷ xs) zero l z =
    let e : suc (length xs) - 0 ≡ suc (suc (length xs) - 1) = omega arith in
    sym (one_more (suc (length xs) - 0) (suc (length xs) - 1) x xs e z)
zeros_on (x ∷ xs) (suc i) l z =
    let ih = zeros_on xs i (omega arith) z in
    let e : suc (length xs) - (suc i + 1) ≡ length xs - (i + 1) = omega arith in
    let d : suc (length xs) - suc i ≡ length xs - i = omega arith in
    let k : suc i + 1 ≡ suc (i + 1) = omega arith in
    rw (e, d, k) ih

pub zeros_off : (b : List ℕ) (i : ℕ) → i < length b → slice_index b i ≢ 0
    → begins_with_zeros (length b - i) (drop i b) ≡ false
zeros_off [] i l z = absurd (omega arith)
zeros_off (x ∷ xs) zero l z =
    let e : suc (length xs) - 0 ≡ suc (suc (length xs) - 1) = omega arith in
    one_other (suc (length xs) - 0) (suc (length xs) - 1) x xs e z
zeros_off (x ∷ xs) (suc i) l z =
    let d : suc (length xs) - suc i ≡ length xs - i = omega arith in
    rw d (zeros_off xs i (omega arith) z)

-- a front of n bytes
zeros_taken : (n : ℕ) (xs : List ℕ) → n ≤ length xs
    → begins_with_zeros (length (take n xs)) (take n xs) ≡ begins_with_zeros n xs
zeros_taken zero xs l = refl
zeros_taken (suc n) [] l = absurd (omega arith)
zeros_taken (suc n) (x ∷ xs) l = ap (λ v. if eqb x 0 then v else false) (zeros_taken n xs (omega arith))

-- fewer than n bytes
zeros_short : (n : ℕ) (xs : List ℕ) → length xs < n → begins_with_zeros n xs ≡ false
zeros_short zero xs l = absurd (omega arith)
zeros_short (suc n) [] l = refl
zeros_short (suc n) (x ∷ xs) l =
    elim (eqb x 0) as (λ v. (if v then begins_with_zeros n xs else false) ≡ false)
    [ true ↦ zeros_short n xs (omega arith) | false ↦ refl ]

-- n bytes from an offset on, if they are there, and if they are not
pub zeros_part : (b : List ℕ) (at n : ℕ) → at + n ≤ length b
    → begins_with_zeros (length (part_of b at n)) (part_of b at n) ≡ begins_with_zeros n (drop at b)
zeros_part b at n l = zeros_taken n (drop at b) (let e = length-drop at b in omega arith)

pub zeros_past : (b : List ℕ) (at n : ℕ) → (at + n ≤ length b → ⊥) → begins_with_zeros n (drop at b) ≡ eqb n 0
zeros_past b at zero l = refl
zeros_past b at (suc n) l =
    zeros_short (suc n) (drop at b) (let e = length-drop at b in omega arith)
    ∙ sym (ne_eqb (suc n) 0 (λ e. omega arith))
