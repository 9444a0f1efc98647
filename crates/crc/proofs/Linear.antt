-- A remainder is linear in the bits that go into it.
use Rattle.std.proofs.Common.{◌≡◌, ℕ, zero, suc, ◌+◌, ◌*◌, ◌/◌, ◌%◌, ◌^◌, ◌<◌, ◌⊎◌, inl, inr, List, [], ◌∷◌, length}
use Rattle.std.proofs.Common.{set, get_or, refl, sym, ap, ◌∙◌, arith, subst, add-one}
use Rattle.std.specs.Int.Bits.{bit_xor}
use Rattle.std.proofs.lemmas.Nat.{xor_comm, xor_shr, xor_mod, shr_below}
use Rattle.std.proofs.lemmas.Nat.Bits.{bit_at_xor, bit_at_lowest}
use Rattle.std.proofs.lemmas.Bool.{cases_lt}
use Rattle.crc.specs.Crc.{polynomial, after_bit, after_bits, after_bytes}
use Rattle.crc.specs.History.{step, steps}
use Rattle.crc.proofs.Xors.{xor_assoc, xor_self, xor_zero, zero_xor, xor_swap, xor_turn}

xor_half : (a b : ℕ) → bit_xor a b / 2 ≡ bit_xor (a / 2) (b / 2)
xor_half a b = xor_shr a b 1

xor_last : (a b : ℕ) → bit_xor a b % 2 ≡ (a % 2 + b % 2) % 2
xor_last a b = sym (bit_at_lowest (bit_xor a b)) ∙ bit_at_xor a b 0
    ∙ (let p = bit_at_lowest a in let q = bit_at_lowest b in omega arith)

parity : (c : ℕ) → (c % 2 ≡ 0) ⊎ (c % 2 ≡ 1)
parity c = elim (cases_lt (c % 2) 1) [ inl h ↦ inl (omega arith) | inr h ↦ inr (omega arith) ]

pub step_even : (c : ℕ) → c % 2 ≡ 0 → step c ≡ c / 2
unfolding step after_bit
step_even c e = rw e refl

step_odd : (c : ℕ) → c % 2 ≡ 1 → step c ≡ bit_xor (c / 2) polynomial
unfolding step after_bit
step_odd c e = rw e refl

pub step_linear : (a b : ℕ) → step (bit_xor a b) ≡ bit_xor (step a) (step b)
step_linear a b = elim (parity a) [
  | inl p ↦ elim (parity b) [
    | inl q ↦ let e = xor_last a b in step_even (bit_xor a b) (omega arith) ∙ xor_half a b
        ∙ sym (ap (λ (x : ℕ). bit_xor x (step b)) (step_even a p) ∙ ap (bit_xor (a / 2)) (step_even b q))
    | inr q ↦ let e = xor_last a b in step_odd (bit_xor a b) (omega arith)
        ∙ ap (λ (x : ℕ). bit_xor x polynomial) (xor_half a b) ∙ xor_assoc (a / 2) (b / 2) polynomial
        ∙ sym (ap (λ (x : ℕ). bit_xor x (step b)) (step_even a p) ∙ ap (bit_xor (a / 2)) (step_odd b q))
  ]
  | inr p ↦ elim (parity b) [
    | inl q ↦ let e = xor_last a b in step_odd (bit_xor a b) (omega arith)
        ∙ ap (λ (x : ℕ). bit_xor x polynomial) (xor_half a b) ∙ xor_turn (a / 2) (b / 2) polynomial
        ∙ sym (ap (λ (x : ℕ). bit_xor x (step b)) (step_odd a p)
        ∙ ap (bit_xor (bit_xor (a / 2) polynomial)) (step_even b q))
    | inr q ↦ let e = xor_last a b in step_even (bit_xor a b) (omega arith) ∙ xor_half a b
        ∙ sym (ap (λ (x : ℕ). bit_xor x (step b)) (step_odd a p)
        ∙ ap (bit_xor (bit_xor (a / 2) polynomial)) (step_odd b q) ∙ xor_swap (a / 2) polynomial (b / 2) polynomial
        ∙ ap (bit_xor (bit_xor (a / 2) (b / 2))) (xor_self polynomial) ∙ xor_zero (bit_xor (a / 2) (b / 2)))
  ]
]

one_even : (c : ℕ) → c % 2 ≡ 0 → after_bit c 1 ≡ bit_xor (c / 2) polynomial
unfolding after_bit
one_even c e = rw e refl

one_odd : (c : ℕ) → c % 2 ≡ 1 → after_bit c 1 ≡ c / 2
unfolding after_bit
one_odd c e = rw e refl

half_one : (c : ℕ) → bit_xor c 1 / 2 ≡ c / 2
half_one c = xor_half c 1 ∙ xor_zero (c / 2)

one_step : (c : ℕ) → after_bit c 1 ≡ step (bit_xor c 1)
one_step c = elim (parity c) [
  | inl p ↦ let e = xor_last c 1 in one_even c p
      ∙ sym (step_odd (bit_xor c 1) (omega arith) ∙ ap (λ (x : ℕ). bit_xor x polynomial) (half_one c))
  | inr p ↦ let e = xor_last c 1 in one_odd c p ∙ sym (step_even (bit_xor c 1) (omega arith) ∙ half_one c)
]

zero_step : (c : ℕ) → after_bit c 0 ≡ step (bit_xor c 0)
unfolding step
zero_step c = ap (λ (x : ℕ). after_bit x 0) (sym (xor_zero c))

-- a step with a bit
bit_step : (c bit : ℕ) → bit < 2 → after_bit c bit ≡ step (bit_xor c bit)
bit_step c bit small = elim (cases_lt bit 1) [
  | inl h ↦ let e : bit ≡ 0 =
      omega arith in ap (after_bit c) e ∙ zero_step c ∙ ap (λ (x : ℕ). step (bit_xor c x)) (sym e)
  | inr h ↦ let e : bit ≡ 1 =
      omega arith in ap (after_bit c) e ∙ one_step c ∙ ap (λ (x : ℕ). step (bit_xor c x)) (sym e)
]

pub steps_linear : (n a b : ℕ) → steps n (bit_xor a b) ≡ bit_xor (steps n a) (steps n b)
unfolding steps
steps_linear zero a b = refl
steps_linear (suc n) a b = ap (steps n) (step_linear a b) ∙ steps_linear n (step a) (step b)

pub steps_add : (m n c : ℕ) → steps (m + n) c ≡ steps n (steps m c)
unfolding steps
steps_add zero n c = let e : 0 + n ≡ n = omega arith in ap (λ (k : ℕ). steps k c) e
steps_add (suc m) n c =
    let e : suc m + n ≡ suc (m + n) = omega arith in ap (λ (k : ℕ). steps k c) e ∙ steps_add m n (step c)

bits_linear : (n a b x : ℕ) → after_bits n (bit_xor a b) x ≡ bit_xor (after_bits n a x) (steps n b)
unfolding steps
bits_linear zero a b x = refl
bits_linear (suc n) a b x =
    let small : x % 2 < 2 = omega arith in
    let e : after_bit (bit_xor a b) (x % 2) ≡ bit_xor (after_bit a (x % 2)) (step b) =
    bit_step (bit_xor a b) (x % 2) small ∙ ap step (xor_turn a b (x % 2)) ∙ step_linear (bit_xor a (x % 2)) b
    ∙ ap (λ (y : ℕ). bit_xor y (step b)) (sym (bit_step a (x % 2) small)) in
    ap (λ (y : ℕ). after_bits n y (x / 2)) e ∙ bits_linear n (after_bit a (x % 2)) (step b) (x / 2)

-- bytes later
pub bytes_linear : (t : List ℕ) (a b : ℕ)
    → after_bytes (bit_xor a b) t ≡ bit_xor (after_bytes a t) (steps (8 * length t) b)
unfolding steps
bytes_linear [] a b = refl
bytes_linear (x ∷ t) a b =
    let e : 8 * length (x ∷ t) ≡ 8 + 8 * length t = omega arith in
    ap (λ (y : ℕ). after_bytes y t) (bits_linear 8 a b x) ∙ bytes_linear t (after_bits 8 a x) (steps 8 b)
    ∙ ap (bit_xor (after_bytes (after_bits 8 a x) t))
    (sym (steps_add 8 (8 * length t) b) ∙ ap (λ (k : ℕ). steps k b) (sym e))

-- the lowest bit of v apart
step_split : (v : ℕ) → step v ≡ bit_xor (step (v % 2)) (v / 2)
step_split v = elim (parity v) [
  | inl p ↦ step_even v p ∙ sym (ap (λ (x : ℕ). bit_xor (step x) (v / 2)) p
      ∙ ap (λ (x : ℕ). bit_xor x (v / 2)) (step_even 0 refl) ∙ zero_xor (v / 2))
  | inr p ↦ step_odd v p ∙ sym (ap (λ (x : ℕ). bit_xor (step x) (v / 2)) p
      ∙ ap (λ (x : ℕ). bit_xor x (v / 2)) (step_odd 1 refl ∙ zero_xor polynomial) ∙ xor_comm polynomial (v / 2))
]

-- v goes into the next n bits
pub bits_xor : (n a x v : ℕ) → v < 2 ^ n → after_bits n a (bit_xor x v) ≡ bit_xor (after_bits n a x) (steps n v)
unfolding steps
bits_xor zero a x v small = let e : v ≡ 0 = omega arith in sym (ap (bit_xor a) e ∙ xor_zero a)
bits_xor (suc n) a x v small =
    let low : x % 2 < 2 = omega arith in
    let last : v % 2 < 2 = omega arith in
    let both : bit_xor x v % 2 < 2 = omega arith in
    let bits : bit_xor x v % 2 ≡ bit_xor (x % 2) (v % 2) = xor_mod x v 1 in
    let first : after_bit a (bit_xor x v % 2) ≡ bit_xor (after_bit a (x % 2)) (step (v % 2)) =
    bit_step a (bit_xor x v % 2) both ∙ ap (λ (y : ℕ). step (bit_xor a y)) bits
    ∙ ap step (sym (xor_assoc a (x % 2) (v % 2))) ∙ step_linear (bit_xor a (x % 2)) (v % 2)
    ∙ ap (λ (y : ℕ). bit_xor y (step (v % 2))) (sym (bit_step a (x % 2) low)) in
    let rest : v / 2 < 2 ^ n =
    shr_below v n 1 (let P : ℕ → Type 0 = λ k. v < 2 ^ k in subst P (sym (add-one n)) small) in
    ap (λ (y : ℕ). after_bits n y (bit_xor x v / 2)) first
    ∙ ap (after_bits n (bit_xor (after_bit a (x % 2)) (step (v % 2)))) (xor_half x v)
    ∙ bits_xor n (bit_xor (after_bit a (x % 2)) (step (v % 2))) (x / 2) (v / 2) rest
    ∙ ap (λ (y : ℕ). bit_xor y (steps n (v / 2))) (bits_linear n (after_bit a (x % 2)) (step (v % 2)) (x / 2))
    ∙ xor_assoc (after_bits n (after_bit a (x % 2)) (x / 2)) (steps n (step (v % 2))) (steps n (v / 2))
    ∙ ap (bit_xor (after_bits n (after_bit a (x % 2)) (x / 2)))
    (sym (steps_linear n (step (v % 2)) (v / 2)) ∙ ap (steps n) (sym (step_split v)))

-- v goes into the byte at k, which n bytes from the end begins
pub byte_xor : (t : List ℕ) (k n c v : ℕ) → n + k ≡ length t → 0 < n → v < 256
    → after_bytes c (set t k (bit_xor (get_or t k 0) v)) ≡ bit_xor (after_bytes c t) (steps (8 * n) v)
byte_xor [] k n c v e p small = absurd (omega arith)
byte_xor (x ∷ t) zero n c v e p small =
    let m : 8 + 8 * length t ≡ 8 * n = omega arith in
    ap (λ (y : ℕ). after_bytes y t) (bits_xor 8 c x v small) ∙ bytes_linear t (after_bits 8 c x) (steps 8 v)
    ∙ ap (bit_xor (after_bytes (after_bits 8 c x) t)) (sym (steps_add 8 (8 * length t) v) ∙ ap (λ (y : ℕ). steps y v) m)
byte_xor (x ∷ t) (suc k) n c v e p small = byte_xor t k n (after_bits 8 c x) v (omega arith) p small
