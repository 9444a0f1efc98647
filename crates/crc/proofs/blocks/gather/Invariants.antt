use Rattle.std.proofs.Common.{◌≡◌, ◌<◌, ◌≤◌, ◌++◌, ℕ, List, length, take, drop, get_or}
use Rattle.crc.specs.History.{after_history}
use Rattle.crc.proofs.blocks.gather.Given as goal

abbrev pub invariant-loop-i : goal.invariant-loop-i
invariant-loop-i l = record {
  room : length l.buf ≡ length l.initial.buf;
  small : (k : ℕ) → get_or l.buf k 0 < 256;
  same : (next : List ℕ) → 300 ≤ length next
      → after_history (take 300 (drop l.i l.buf)) (drop l.i l.bytes ++ next)
      ≡ after_history (take 300 l.initial.buf) (l.bytes ++ next);
}
