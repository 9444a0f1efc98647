use Rattle.std.proofs.Common.{◌≡◌, length}
use Rattle.std.specs.Io.KnownBytes.{Keeps}
use Rattle.program_streams.proofs.ahead.read_held_again.Given as goal

abbrev pub invariant-loop : goal.invariant-loop
invariant-loop g l =
    (length l.buf ≡ length l.initial.buf) × Keeps (g.X.Read.remaining l.initial.reader) (g.X.Read.remaining l.reader)
