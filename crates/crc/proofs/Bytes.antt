-- What single bytes, and the four of a remainder, do to a remainder.
use Rattle.std.proofs.Common.{◌≡◌, ℕ, suc, ◌+◌, ◌*◌, ◌/◌, ◌%◌, ◌^◌, ◌<◌, List, [], ◌∷◌, ◌++◌, length, replicate, refl}
use Rattle.std.proofs.Common.{sym, ap, ◌∙◌, arith, zero}
use Rattle.std.specs.Int.Bits.{bit_xor}
use Rattle.std.proofs.lemmas.Nat.{xor_block, xor_comm}
use Rattle.crc.specs.Crc.{after_bit, after_bits, after_bytes}
use Rattle.crc.specs.History.{step, steps}
use Rattle.crc.proofs.Xors.{xor_assoc, zero_xor, xor_zero}
use Rattle.crc.proofs.Linear.{steps_linear, steps_add, bytes_linear, bits_xor}
use Rattle.crc.proofs.Relation.{step_double, steps_zero}
use Rattle.crc.proofs.Joins.{after_append}

-- a remainder and a byte
one_byte : (c v : ℕ) → v < 256 → after_bits 8 c v ≡ bit_xor (steps 8 c) (steps 8 v)
unfolding steps step
one_byte c v small = ap (after_bits 8 c) (sym (zero_xor v)) ∙ bits_xor 8 c 0 v small ∙ refl

-- the first byte apart
pub first_byte : (t : List ℕ) (v : ℕ) → v < 256
    → after_bytes 0 (v ∷ t) ≡ bit_xor (after_bytes 0 t) (steps (8 * length t + 8) v)
unfolding steps step after_bit
first_byte t v small =
    let m : 8 + 8 * length t ≡ 8 * length t + 8 = omega arith in
    ap (λ (x : ℕ). after_bytes x t) (one_byte 0 v small) ∙ bytes_linear t 0 (steps 8 v)
    ∙ ap (bit_xor (after_bytes 0 t)) (sym (steps_add 8 (8 * length t) v) ∙ ap (λ (k : ℕ). steps k v) m)

-- the last byte apart
pub last_byte : (t : List ℕ) (v : ℕ) → v < 256
    → after_bytes 0 (t ++ v ∷ []) ≡ bit_xor (steps 8 (after_bytes 0 t)) (steps 8 v)
last_byte t v small = after_append 0 t (v ∷ []) ∙ one_byte (after_bytes 0 t) v small

-- bytes of zero
pub zero_bytes : (n c : ℕ) → after_bytes c (replicate n 0) ≡ steps (8 * n) c
unfolding steps step
zero_bytes zero c = refl
zero_bytes (suc n) c = let e : 8 * suc n ≡ 8 + 8 * n =
    omega arith in zero_bytes n (after_bits 8 c 0) ∙ sym (steps_add 8 (8 * n) c) ∙ ap (λ (k : ℕ). steps k c) (sym e)

-- the lowest byte apart
low_byte : (c : ℕ) → c ≡ bit_xor (c % 256) (c / 256 * 256)
low_byte c =
    let b = xor_block 8 0 (c / 256) (c % 256) 0 (omega arith) (omega arith) in
    let l : bit_xor (0 * 2 ^ 8 + c % 256) (c / 256 * 2 ^ 8 + 0) ≡ bit_xor (c % 256) (c / 256 * 256) =
    let x : 0 * 2 ^ 8 + c % 256 ≡ c % 256 =
    omega arith in let y : c / 256 * 2 ^ 8 + 0 ≡ c / 256 * 256 =
    omega arith in ap (λ (v : ℕ). bit_xor v (c / 256 * 2 ^ 8 + 0)) x ∙ ap (bit_xor (c % 256)) y in
    let m : bit_xor 0 (c / 256) * 2 ^ 8 + bit_xor (c % 256) 0 ≡ c =
    let z = zero_xor (c / 256) in let o =
    xor_zero (c % 256) in let t : bit_xor 0 (c / 256) * 256 ≡ c / 256 * 256 =
    ap (λ (v : ℕ). v * 256) z in omega arith in
    sym m ∙ sym b ∙ l

eight : (y : ℕ) → steps 8 (y * 256) ≡ y
unfolding steps
eight y =
    let d : (a b : ℕ) → a ≡ b * 2 → step a ≡ b = λ a b e. ap step e ∙ step_double b in
    let e1 : step (y * 256) ≡ y * 128 = d (y * 256) (y * 128) (omega arith) in
    let e2 : step (y * 128) ≡ y * 64 = d (y * 128) (y * 64) (omega arith) in
    let e3 : step (y * 64) ≡ y * 32 = d (y * 64) (y * 32) (omega arith) in
    let e4 : step (y * 32) ≡ y * 16 = d (y * 32) (y * 16) (omega arith) in
    let e5 : step (y * 16) ≡ y * 8 = d (y * 16) (y * 8) (omega arith) in
    let e6 : step (y * 8) ≡ y * 4 = d (y * 8) (y * 4) (omega arith) in
    let e7 : step (y * 4) ≡ y * 2 = d (y * 4) (y * 2) (omega arith) in
    ap (steps 7) e1 ∙ ap (steps 6) e2 ∙ ap (steps 5) e3 ∙ ap (steps 4) e4 ∙ ap (steps 3) e5 ∙ ap (steps 2) e6
    ∙ ap (steps 1) e7 ∙ step_double y

-- eight steps take the lowest byte away
eight_more : (m c : ℕ) → steps (8 + m) c ≡ bit_xor (steps (8 + m) (c % 256)) (steps m (c / 256))
eight_more m c =
    ap (steps (8 + m)) (low_byte c) ∙ steps_linear (8 + m) (c % 256) (c / 256 * 256)
    ∙ ap (bit_xor (steps (8 + m) (c % 256))) (steps_add 8 m (c / 256 * 256) ∙ ap (steps m) (eight (c / 256)))

-- a number's lowest byte in front of its further ones
next_byte : (t : List ℕ) (x v : ℕ) → after_bytes 0 t ≡ bit_xor x (steps (8 * length t) (v / 256))
    → after_bytes 0 (v % 256 ∷ t) ≡ bit_xor x (steps (8 * length (v % 256 ∷ t)) v)
next_byte t x v e =
    let m : ℕ = 8 * length t in
    let low : v % 256 < 256 = omega arith in
    let k1 : m + 8 ≡ 8 + m = omega arith in
    let k2 : 8 + m ≡ 8 * length (v % 256 ∷ t) = omega arith in
    first_byte t (v % 256) low ∙ ap (λ (y : ℕ). bit_xor y (steps (m + 8) (v % 256))) e
    ∙ xor_assoc x (steps m (v / 256)) (steps (m + 8) (v % 256))
    ∙ ap (bit_xor x) (xor_comm (steps m (v / 256)) (steps (m + 8) (v % 256))
    ∙ ap (λ (k : ℕ). bit_xor (steps k (v % 256)) (steps m (v / 256))) k1 ∙ sym (eight_more m v)
    ∙ ap (λ (k : ℕ). steps k v) k2)

-- a remainder as the first four bytes, the lowest first
pub four_bytes : (t : List ℕ) (c : ℕ) → c < 2 ^ 32
    → after_bytes 0 (c % 256 ∷ c / 256 % 256 ∷ c / 256 / 256 % 256 ∷ c / 256 / 256 / 256 % 256 ∷ t)
    ≡ bit_xor (after_bytes 0 t) (steps (8 * length t + 32) c)
four_bytes t c wide =
    let none : c / 256 / 256 / 256 / 256 ≡ 0 = omega arith in
    let X = after_bytes 0 t in
    let e0 : X ≡ bit_xor X (steps (8 * length t) (c / 256 / 256 / 256 / 256)) =
    sym (ap (λ (v : ℕ). bit_xor X (steps (8 * length t) v)) none ∙ ap (bit_xor X) (steps_zero (8 * length t))
    ∙ xor_zero X) in
    let e1 = next_byte t X (c / 256 / 256 / 256) e0 in
    let e2 = next_byte (c / 256 / 256 / 256 % 256 ∷ t) X (c / 256 / 256) e1 in
    let e3 = next_byte (c / 256 / 256 % 256 ∷ c / 256 / 256 / 256 % 256 ∷ t) X (c / 256) e2 in
    let all : 8 * length (c % 256 ∷ c / 256 % 256 ∷ c / 256 / 256 % 256 ∷ c / 256 / 256 / 256 % 256 ∷ t)
    ≡ 8 * length t + 32 = omega arith in
    next_byte (c / 256 % 256 ∷ c / 256 / 256 % 256 ∷ c / 256 / 256 / 256 % 256 ∷ t) X c e3
    ∙ ap (λ (k : ℕ). bit_xor X (steps k c)) all
