use Rattle.std.proofs.Common.{◌≡◌, ◌-◌, ◌≤◌, length, drop, vec_len}
use Rattle.std.specs.Io.{StartsWith}
use Rattle.std.specs.Io.KnownBytes.{Consumes}
use Rattle.program_streams.proofs.loading.read_on.Given as goal

abbrev pub invariant-loop-bytes : goal.invariant-loop-bytes
invariant-loop-bytes g l = record {
  starts : StartsWith l.bytes.items l.initial.bytes.items;
  read : Consumes (g.R.Read.remaining l.initial.reader) (g.R.Read.remaining l.reader)
      (drop (length l.initial.bytes.items) l.bytes.items);
  most : length l.bytes.items - length l.initial.bytes.items ≤ l.until - length l.initial.bytes.items;
  room : length l.part ≡ length l.initial.part;
}

abbrev pub decreases-loop-bytes : goal.decreases-loop-bytes
decreases-loop-bytes g l = l.until - vec_len l.bytes
