use Rattle.std.proofs.Common.{◌≡◌, ◌+◌, ◌-◌, ◌≤◌, length, take, drop}
use Rattle.crc.specs.Crc.{after_bytes}
use Rattle.crc.specs.History.{after_history}
use Rattle.crc.proofs.blocks.with_blocks.Given as goal

abbrev pub invariant-loop-at : goal.invariant-loop-at
invariant-loop-at l = record {
  room : length l.buf ≡ 4396;
  left : l.at + 300 ≤ length l.bytes;
  value : after_history (take 300 l.buf) (drop l.at l.bytes) ≡ after_bytes l.fn.c l.bytes;
}

abbrev pub decreases-loop-at : goal.decreases-loop-at
decreases-loop-at l = length l.bytes - l.at
