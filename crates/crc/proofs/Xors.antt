-- Sums of bits.
use Rattle.std.proofs.Common.{◌≡◌, ℕ, ap, sym, ◌∙◌, arith}
use Rattle.std.specs.Int.Bits.{bit_xor}
use Rattle.std.proofs.lemmas.Nat.{xor_comm}
use Rattle.std.proofs.lemmas.Nat.Bits.{bit_at_xor, same_from_bits, bit_at-zero}

pub xor_assoc : (a b c : ℕ) → bit_xor (bit_xor a b) c ≡ bit_xor a (bit_xor b c)
xor_assoc a b c = same_from_bits _ _
    (λ i. let p = bit_at_xor (bit_xor a b) c i in let q = bit_at_xor a b i in let r = bit_at_xor a
    (bit_xor b c) i in let t = bit_at_xor b c i in omega arith)

pub xor_self : (a : ℕ) → bit_xor a a ≡ 0
xor_self a = same_from_bits _ _ (λ i. let p = bit_at_xor a a i in let z = bit_at-zero i in omega arith)

pub xor_zero : (a : ℕ) → bit_xor a 0 ≡ a
xor_zero a = same_from_bits _ _ (λ i. let p = bit_at_xor a 0 i in let z = bit_at-zero i in omega arith)

pub zero_xor : (a : ℕ) → bit_xor 0 a ≡ a
zero_xor a = xor_comm 0 a ∙ xor_zero a

-- the inner two of four change places
pub xor_swap : (a b c d : ℕ) → bit_xor (bit_xor a b) (bit_xor c d) ≡ bit_xor (bit_xor a c) (bit_xor b d)
xor_swap a b c d = xor_assoc a b (bit_xor c d)
    ∙ ap (bit_xor a) (sym (xor_assoc b c d) ∙ ap (λ (x : ℕ). bit_xor x d) (xor_comm b c) ∙ xor_assoc c b d)
    ∙ sym (xor_assoc a c (bit_xor b d))

-- a ⊕ b and b give a
pub xor_twice : (a b : ℕ) → bit_xor (bit_xor a b) b ≡ a
xor_twice a b = xor_assoc a b b ∙ ap (bit_xor a) (xor_self b) ∙ xor_zero a

-- the last of three before the second
pub xor_turn : (a b c : ℕ) → bit_xor (bit_xor a b) c ≡ bit_xor (bit_xor a c) b
xor_turn a b c = xor_assoc a b c ∙ ap (bit_xor a) (xor_comm b c) ∙ sym (xor_assoc a c b)

-- four together
abbrev pub four : ℕ → ℕ → ℕ → ℕ → ℕ
four a b c d = bit_xor a (bit_xor b (bit_xor c d))

pub four_same : {a b c d e f g h : ℕ} → a ≡ e → b ≡ f → c ≡ g → d ≡ h → four a b c d ≡ four e f g h
four_same p q r s = cc

pub four_swap : (a b c d e f g h : ℕ)
    → four (bit_xor a b) (bit_xor c d) (bit_xor e f) (bit_xor g h) ≡ bit_xor (four a c e g) (four b d f h)
four_swap a b c d e f g h =
    ap (bit_xor (bit_xor a b)) (ap (bit_xor (bit_xor c d)) (xor_swap e f g h)
    ∙ xor_swap c d (bit_xor e g) (bit_xor f h))
    ∙ xor_swap a b (bit_xor c (bit_xor e g)) (bit_xor d (bit_xor f h))

-- four added in turn
pub four_turn : (x a b c d : ℕ) → bit_xor (bit_xor (bit_xor (bit_xor x a) b) c) d ≡ bit_xor x (four a b c d)
four_turn x a b c d = xor_assoc (bit_xor (bit_xor x a) b) c d ∙ xor_assoc (bit_xor x a) b (bit_xor c d)
    ∙ xor_assoc x a (bit_xor b (bit_xor c d))
