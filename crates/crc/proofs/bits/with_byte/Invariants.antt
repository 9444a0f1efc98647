use Rattle.std.proofs.Common.{◌≡◌, ◌-◌}
use Rattle.crc.specs.Crc.{after_bits}
use Rattle.crc.proofs.bits.with_byte.Given as goal

abbrev pub invariant-loop-i : goal.invariant-loop-i
invariant-loop-i l = after_bits (8 - l.i) l.c l.rest ≡ after_bits 8 l.fn.c l.fn.x
