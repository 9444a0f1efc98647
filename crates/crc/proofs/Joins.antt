-- Bytes behind others.
use Rattle.std.proofs.Common.{◌≡◌, ℕ, List, [], ◌∷◌, ◌++◌, refl, sym, ap, ◌∙◌}
use Rattle.std.specs.Int.Bits.{bit_xor}
use Rattle.crc.specs.Crc.{after_bits, after_bytes, crc_of}
use Rattle.crc.proofs.Xors.{xor_twice}

pub after_append : (c : ℕ) (xs ys : List ℕ) → after_bytes c (xs ++ ys) ≡ after_bytes (after_bytes c xs) ys
after_append c [] ys = refl
after_append c (x ∷ xs) ys = after_append (after_bits 8 c x) xs ys

-- the sum of bytes behind others, by the remainder r from the inverted sum of these on
pub crc_more : (c r v : ℕ) (xs ys : List ℕ) → c ≡ crc_of xs → r ≡ after_bytes (bit_xor c 4294967295) ys
    → v ≡ bit_xor r 4294967295 → v ≡ crc_of (xs ++ ys)
unfolding crc_of
crc_more c r v xs ys e q h =
    let back : bit_xor c 4294967295 ≡ after_bytes 4294967295 xs =
    ap (λ (y : ℕ). bit_xor y 4294967295) e ∙ xor_twice (after_bytes 4294967295 xs) 4294967295 in
    h ∙ ap (λ (y : ℕ). bit_xor y 4294967295)
    (q ∙ ap (λ (y : ℕ). after_bytes y ys) back ∙ sym (after_append 4294967295 xs ys))

pub crc_none : 0 ≡ crc_of []
unfolding crc_of
crc_none = refl
