-- The bytes before the first zero, by the offset of that zero.
use Rattle.std.proofs.Common.{◌≡◌, ◌+◌, ◌-◌, ◌<◌, ◌≤◌, ℕ, zero, suc, true, false, eqb, cond, List, [], ◌∷◌, length}
use Rattle.std.proofs.Common.{take, drop, get_or, Option, Some, None, SomeIff, refl, sym, ap, ◌∙◌, arith, get_or-take}
use Rattle.std.proofs.Common.{length-drop, length-take}
use Rattle.std.proofs.lemmas.Bool.{eqb-true}
use Rattle.std.proofs.lemmas.Bool.Decides.{nat_tests}
use Rattle.romfs_format.specs.Record.{before_zero}
use Rattle.memchr.specs.Find.{IsFirstByte, is_byte}

before_zero_at : (ys : List ℕ) (i : ℕ) → i < length ys → get_or ys i 0 ≡ 0 → ((k : ℕ) → k < i → ¬ (get_or ys k 0 ≡ 0))
    → length (before_zero ys) ≡ i
before_zero_at [] i h z n = absurd (omega arith)
before_zero_at (x ∷ ys) zero h z n = rw z refl
before_zero_at (x ∷ ys) (suc i) h z n =
    let here = n 0 (omega arith) in
    let ih = before_zero_at ys i (omega arith) z (λ k l. n (suc k) (omega arith)) in
    elim (eqb x 0) as (λ t. eqb x 0 ≡ t → length (cond t [] (x ∷ before_zero ys)) ≡ suc i)
    [ true ↦ λ e. absurd (here (grind (arith, nat_tests))) | false ↦ λ e. ap suc ih ] refl

before_zero_past : (ys : List ℕ) (n : ℕ) → n ≤ length ys → ((k : ℕ) → k < n → ¬ (get_or ys k 0 ≡ 0))
    → n ≤ length (before_zero ys)
before_zero_past ys zero h none = omega arith
before_zero_past [] (suc n) h none = absurd (omega arith)
before_zero_past (x ∷ ys) (suc n) h none =
    let here = none 0 (omega arith) in
    let ih = before_zero_past ys n (omega arith) (λ k l. none (suc k) (omega arith)) in
    elim (eqb x 0) as (λ t. eqb x 0 ≡ t → suc n ≤ length (cond t [] (x ∷ before_zero ys)))
    [ true ↦ λ e. absurd (here (grind (arith, nat_tests))) | false ↦ λ e. omega arith ] refl

-- what a search among the first n bytes from at on says of the bytes before their zero
pub named : (b : List ℕ) (at n : ℕ) (r : Option ℕ) → at + n ≤ length b → n ≤ 256 → (n < 256 → at + n ≡ length b)
    → IsFirstByte (is_byte 0) (take n (drop at b)) r
    → SomeIff r ((at + length (before_zero (drop at b)) < length b) × (length (before_zero (drop at b)) < 256))
    (length (before_zero (drop at b)))
named b at n None h most less first =
    let len = length-drop at b in
    let none : (k : ℕ) → k < n → ¬ (get_or (drop at b) k 0 ≡ 0) =
    λ k l z. first k (omega arith) (rw length-take (omega arith)) (rw (get_or-take n (drop at b) k 0 l, z) refl) in
    let past = before_zero_past (drop at b) n (omega arith) none in
    λ p. absurd (omega arith)
named b at n (Some i) h most less first =
    let len = length-drop at b in
    let cut = length-take n (drop at b) in
    let high = first.0.high in
    let inside : i < n = omega arith in
    let zeroed : get_or (drop at b) i 0 ≡ 0 = sym (get_or-take n (drop at b) i 0 inside) ∙ eqb-true _ _ first.1 in
    let e = before_zero_at (drop at b) i (omega arith) zeroed
    (λ k l z. first.0.before k (omega arith) l (rw (get_or-take n (drop at b) k 0 (omega arith), z) refl)) in
    ((omega arith, omega arith), sym e)

-- what a search among all bytes from at on says of the bytes before their zero
pub ended : (b : List ℕ) (at : ℕ) (r : Option ℕ) → at ≤ length b
    → IsFirstByte (is_byte 0) (take (length b - at) (drop at b)) r
    → SomeIff r (at + length (before_zero (drop at b)) < length b) (length (before_zero (drop at b)))
ended b at None h first =
    let n : ℕ = length b - at in
    let len = length-drop at b in
    let none : (k : ℕ) → k < n → ¬ (get_or (drop at b) k 0 ≡ 0) =
    λ k l z. first k (omega arith) (rw length-take (omega arith)) (rw (get_or-take n (drop at b) k 0 l, z) refl) in
    let past = before_zero_past (drop at b) n (omega arith) none in
    λ p. absurd (omega arith)
ended b at (Some i) h first =
    let n : ℕ = length b - at in
    let len = length-drop at b in
    let cut = length-take n (drop at b) in
    let high = first.0.high in
    let inside : i < n = omega arith in
    let zeroed : get_or (drop at b) i 0 ≡ 0 = sym (get_or-take n (drop at b) i 0 inside) ∙ eqb-true _ _ first.1 in
    let e = before_zero_at (drop at b) i (omega arith) zeroed
    (λ k l z. first.0.before k (omega arith) l (rw (get_or-take n (drop at b) k 0 (omega arith), z) refl)) in
    (omega arith, sym e)
