use Rattle.std.proofs.Common.{◌≡◌, ◌-◌, ◌*◌, length, drop}
use Rattle.std.specs.Int.Bits.{bit_xor}
use Rattle.crc.specs.Crc.{after_bytes}
use Rattle.crc.specs.History.{steps}
use Rattle.crc.proofs.blocks.add.Given as goal

abbrev pub invariant-loop-i : goal.invariant-loop-i
invariant-loop-i l = record {
  room : length l.bytes ≡ length l.initial.bytes;
  sum : bit_xor (after_bytes 0 l.bytes)
      (steps (8 * (length l.initial.bytes - length l.from)) (after_bytes 0 (drop l.i l.from)))
      ≡ bit_xor (after_bytes 0 l.initial.bytes)
      (steps (8 * (length l.initial.bytes - length l.from)) (after_bytes 0 l.from));
}
