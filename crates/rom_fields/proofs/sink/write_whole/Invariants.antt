use Rattle.std.proofs.Common.{◌≡◌, ◌≤◌, ◌-◌, length, take}
use Rattle.std.specs.Io.KnownBytes.{Appends}
use Rattle.rom_fields.proofs.sink.write_whole.Given as goal

abbrev pub invariant-loop-at : goal.invariant-loop-at
invariant-loop-at g l = record {
  within : l.at ≤ length l.b;
  written : Appends (g.W.ByteWrite.output l.initial.w).contents (g.W.ByteWrite.output l.w).contents (take l.at l.b);
  quiet : (g.W.ByteWrite.output l.w).failures ≡ (g.W.ByteWrite.output l.initial.w).failures;
  unflushed : (g.W.ByteWrite.output l.w).flushes ≡ (g.W.ByteWrite.output l.initial.w).flushes;
}

abbrev pub decreases-loop-at : goal.decreases-loop-at
decreases-loop-at g l = length l.b - l.at
