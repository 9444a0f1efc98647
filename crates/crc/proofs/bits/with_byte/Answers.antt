use Rattle.std.proofs.Common.{◌≡◌, ◌+◌, ◌-◌, ◌/◌, ◌%◌, ℕ, suc, sym, ap, ◌∙◌, arith}
use Rattle.crc.specs.Crc.{after_bit, after_bits}
use Rattle.crc.proofs.bits.with_byte.Goals as goal

one_bit : (n m c x : ℕ) → n ≡ suc m → after_bits n c x ≡ after_bits m (after_bit c (x % 2)) (x / 2)
one_bit n m c x e = ap (λ (k : ℕ). after_bits k c x) e

pub loop-i-preserved : goal.loop-i-preserved
loop-i-preserved c =
    let m : ℕ = 8 - (c.loop-i.i + 1) in
    ap (λ (v : ℕ). after_bits m v (c.loop-i.rest / 2)) c.with_bit-c.ensures
    ∙ sym (one_bit (8 - c.loop-i.i) m c.loop-i.c c.loop-i.rest (omega arith)) ∙ c.loop-i.invariant
