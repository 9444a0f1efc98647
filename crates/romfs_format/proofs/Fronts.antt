-- The bytes before the first zero, after a search that found it or found none.
use Rattle.std.proofs.Common.{◌≡◌, ◌<◌, ℕ, zero, suc, true, false, eqb, cond, List, [], ◌∷◌, length, take, get_or, Some}
use Rattle.std.proofs.Common.{None, refl, ap, arith}
use Rattle.std.proofs.lemmas.Bool.{eqb-true}
use Rattle.std.proofs.lemmas.Bool.Decides.{nat_tests}
use Rattle.romfs_format.specs.Record.{before_zero}
use Rattle.memchr.specs.Find.{IsFirstByte, is_byte}

front_is : (ys : List ℕ) (i : ℕ) → i < length ys → get_or ys i 0 ≡ 0 → ((k : ℕ) → k < i → ¬ (get_or ys k 0 ≡ 0))
    → take i ys ≡ before_zero ys
front_is [] i h z n = absurd (omega arith)
front_is (x ∷ ys) zero h z n = rw z refl
front_is (x ∷ ys) (suc i) h z n =
    let here = n 0 (omega arith) in
    let ih = front_is ys i (omega arith) z (λ k l. n (suc k) (omega arith)) in
    elim (eqb x 0) as (λ t. eqb x 0 ≡ t → x ∷ take i ys ≡ cond t [] (x ∷ before_zero ys))
    [ true ↦ λ e. absurd (here (grind (arith, nat_tests))) | false ↦ λ e. ap (λ (v : List ℕ). x ∷ v) ih ] refl

all_are : (ys : List ℕ) → ((k : ℕ) → k < length ys → ¬ (get_or ys k 0 ≡ 0)) → ys ≡ before_zero ys
all_are [] none = refl
all_are (x ∷ ys) none =
    let here = none 0 (omega arith) in
    let ih = all_are ys (λ k l. none (suc k) (omega arith)) in
    elim (eqb x 0) as (λ t. eqb x 0 ≡ t → x ∷ ys ≡ cond t [] (x ∷ before_zero ys))
    [ true ↦ λ e. absurd (here (grind (arith, nat_tests))) | false ↦ λ e. ap (λ (v : List ℕ). x ∷ v) ih ] refl

-- what a search for a zero says
pub found : (b : List ℕ) (i : ℕ) → IsFirstByte (is_byte 0) b (Some i) → take i b ≡ before_zero b
found b i first = let high = first.0.high in front_is b i (omega arith) (eqb-true _ _ first.1)
    (λ k l z. first.0.before k (omega arith) l (rw z refl))

pub found_none : (b : List ℕ) → IsFirstByte (is_byte 0) b None → b ≡ before_zero b
found_none b first = all_are b (λ k l z. first k (omega arith) l (rw z refl))
