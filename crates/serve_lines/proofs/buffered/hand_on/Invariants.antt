use Rattle.std.proofs.Common.{◌≡◌, ◌≤◌, ◌++◌, ◌-◌, List, ℕ, length, drop}
use Rattle.std.specs.Io.KnownBytes.{Appends}
use Rattle.serve_lines.proofs.buffered.hand_on.Given as goal

abbrev pub invariant-loop-sent : goal.invariant-loop-sent
invariant-loop-sent g l = record {
  front : List ℕ;
  within : l.sent ≤ length l.held.items;
  wrote : Appends (g.W.ByteWrite.output l.initial.w).contents (g.W.ByteWrite.output l.w).contents front;
  left : drop l.initial.sent l.held.items ≡ front ++ drop l.sent l.held.items;
  quiet : (g.W.ByteWrite.output l.w).failures ≡ (g.W.ByteWrite.output l.initial.w).failures;
  unflushed : (g.W.ByteWrite.output l.w).flushes ≡ (g.W.ByteWrite.output l.initial.w).flushes;
}

abbrev pub decreases-loop-sent : goal.decreases-loop-sent
decreases-loop-sent g l = length l.held.items - l.sent
