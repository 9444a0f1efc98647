-- x^300 is x^155 + x^117 + x^89 + 1 modulo the polynomial, and so are their eighth powers: a byte does to the remainder
-- what it does from 145, 183, 211 and 300 bytes later together.
use Rattle.std.proofs.Common.{◌≡◌, ℕ, zero, suc, ◌+◌, ◌-◌, ◌*◌, ◌^◌, ◌<◌, ◌≤◌, inl, inr, refl, sym, ap, ◌∙◌, arith}
use Rattle.std.proofs.Common.{subst, add-one}
use Rattle.std.specs.Int.Bits.{bit_xor}
use Rattle.std.proofs.lemmas.Nat.{xor_block, pow-add, pow_pos}
use Rattle.std.proofs.lemmas.Bool.{cases_lt}
use Rattle.crc.specs.Crc.{after_bit}
use Rattle.crc.specs.History.{step, steps}
use Rattle.crc.proofs.Xors.{zero_xor, four, four_same, four_swap}
use Rattle.crc.proofs.Linear.{step_linear, step_even, steps_linear, steps_add}

pub steps_zero : (n : ℕ) → steps n 0 ≡ 0
unfolding steps step after_bit
steps_zero zero = refl
steps_zero (suc n) = steps_zero n

steps_step : (n c : ℕ) → steps n (step c) ≡ step (steps n c)
unfolding steps
steps_step zero c = refl
steps_step (suc n) c = steps_step n (step c)

step_four : (a b c d : ℕ) → step (four a b c d) ≡ four (step a) (step b) (step c) (step d)
step_four a b c d = step_linear a (bit_xor b (bit_xor c d))
    ∙ ap (bit_xor (step a)) (step_linear b (bit_xor c d) ∙ ap (bit_xor (step b)) (step_linear c d))

pub steps_four : (n a b c d : ℕ) → steps n (four a b c d) ≡ four (steps n a) (steps n b) (steps n c) (steps n d)
steps_four n a b c d = steps_linear n a (bit_xor b (bit_xor c d))
    ∙ ap (bit_xor (steps n a)) (steps_linear n b (bit_xor c d) ∙ ap (bit_xor (steps n b)) (steps_linear n c d))

-- what 2400 steps are
folds : ℕ → ℕ
folds c = four (steps 1240 c) (steps 936 c) (steps 712 c) c

IsFold : ℕ → Type 0
IsFold c = steps 2400 c ≡ folds c

folds_linear : (a b : ℕ) → folds (bit_xor a b) ≡ bit_xor (folds a) (folds b)
unfolding folds
folds_linear a b = four_same (steps_linear 1240 a b) (steps_linear 936 a b) (steps_linear 712 a b) refl
    ∙ four_swap (steps 1240 a) (steps 1240 b) (steps 936 a) (steps 936 b) (steps 712 a) (steps 712 b) a b

folds_step : (c : ℕ) → folds (step c) ≡ step (folds c)
unfolding folds
folds_step c = four_same (steps_step 1240 c) (steps_step 936 c) (steps_step 712 c) refl
    ∙ sym (step_four (steps 1240 c) (steps 936 c) (steps 712 c) c)

fold_top : IsFold 2147483648
unfolding IsFold folds steps step after_bit
fold_top = refl

fold_step : (c : ℕ) → IsFold c → IsFold (step c)
unfolding IsFold
fold_step c h = steps_step 2400 c ∙ ap step h ∙ sym (folds_step c)

fold_xor : (a b : ℕ) → IsFold a → IsFold b → IsFold (bit_xor a b)
unfolding IsFold
fold_xor a b h k = steps_linear 2400 a b ∙ ap (λ (x : ℕ). bit_xor x (steps 2400 b)) h ∙ ap (bit_xor (folds a)) k
    ∙ sym (folds_linear a b)

fold_none : IsFold 0
unfolding IsFold folds
fold_none = steps_zero 2400 ∙ sym (four_same (steps_zero 1240) (steps_zero 936) (steps_zero 712) refl)

pub step_double : (y : ℕ) → step (y * 2) ≡ y
step_double y = step_even (y * 2) (omega arith) ∙ omega arith

fold_power : (j k : ℕ) → j + k ≡ 31 → IsFold (2 ^ k)
fold_power zero k e = let q : 31 ≡ k = omega arith in let P : ℕ → Type 0 = λ v. IsFold (2 ^ v) in subst P q fold_top
fold_power (suc j) k e =
    let up : 2 ^ (k + 1) ≡ 2 ^ k * 2 = pow-add 2 k 1 in
    let one : step (2 ^ (k + 1)) ≡ 2 ^ k = ap step up ∙ step_double (2 ^ k) in
    let P : ℕ → Type 0 = λ v. IsFold v in
    subst P one (fold_step (2 ^ (k + 1)) (fold_power j (k + 1) (omega arith)))

top_xor : (k r : ℕ) → r < 2 ^ k → bit_xor (2 ^ k) r ≡ 2 ^ k + r
top_xor k r small =
    let low : 0 < 2 ^ k = pow_pos k in
    let b = xor_block k 1 0 0 r low small in
    let l : bit_xor (1 * 2 ^ k + 0) (0 * 2 ^ k + r) ≡ bit_xor (2 ^ k) r =
    let x : 1 * 2 ^ k + 0 ≡ 2 ^ k = omega arith in let y : 0 * 2 ^ k + r ≡ r =
    omega arith in ap (λ (v : ℕ). bit_xor v (0 * 2 ^ k + r)) x ∙ ap (bit_xor (2 ^ k)) y in
    let m : bit_xor 1 0 * 2 ^ k + bit_xor 0 r ≡ 2 ^ k + r =
    let z = zero_xor r in let o : bit_xor 1 0 ≡ 1 =
    refl in let t : bit_xor 1 0 * 2 ^ k ≡ 1 * 2 ^ k = ap (λ (v : ℕ). v * 2 ^ k) o in omega arith in
    sym l ∙ b ∙ m

fold_below : (k c : ℕ) → k ≤ 32 → c < 2 ^ k → IsFold c
fold_below zero c le small = let e : 0 ≡ c = omega arith in let P : ℕ → Type 0 = λ v. IsFold v in subst P e fold_none
fold_below (suc k) c le small = elim (cases_lt c (2 ^ k)) [
  | inl h ↦ fold_below k c (omega arith) h
  | inr h ↦
      let two : 2 ^ suc k ≡ 2 ^ k * 2 = ap (λ (v : ℕ). 2 ^ v) (sym (add-one k)) ∙ pow-add 2 k 1 in
      let small' : c - 2 ^ k < 2 ^ k = omega arith in
      let e : bit_xor (2 ^ k) (c - 2 ^ k) ≡ c = top_xor k (c - 2 ^ k) small' ∙ omega arith in
      let P : ℕ → Type 0 = λ v. IsFold v in
      subst P e (fold_xor (2 ^ k) (c - 2 ^ k) (fold_power (31 - k) k (omega arith))
      (fold_below k (c - 2 ^ k) (omega arith) small'))
]

-- the same with j further steps
pub folded : (j v : ℕ) → v < 2 ^ 32 → steps (2400 + j) v
    ≡ four (steps (1240 + j) v) (steps (936 + j) v) (steps (712 + j) v) (steps j v)
unfolding IsFold folds
folded j v small =
    steps_add 2400 j v ∙ ap (steps j) (fold_below 32 v (omega arith) small)
    ∙ steps_four j (steps 1240 v) (steps 936 v) (steps 712 v) v
    ∙ sym (four_same (steps_add 1240 j v) (steps_add 936 j v) (steps_add 712 j v) refl)
