use Rattle.std.proofs.Common.{◌≡◌, drop}
use Rattle.crc.specs.Crc.{after_bytes}
use Rattle.crc.proofs.bits.with_bytes.Given as goal

abbrev pub invariant-bytes : goal.invariant-bytes
invariant-bytes l = after_bytes l.c (drop l.x-index l.bytes) ≡ after_bytes l.fn.c l.bytes
