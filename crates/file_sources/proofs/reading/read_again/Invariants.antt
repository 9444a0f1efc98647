use Rattle.std.proofs.Common.{◌≡◌, length, []}
use Rattle.file_sources.specs.Told.{Tells}
use Rattle.file_sources.proofs.reading.read_again.Given as goal

abbrev pub invariant-loop : goal.invariant-loop
invariant-loop g l = record {
  room : length l.buf ≡ length l.initial.buf;
  contents : g.O.Opener.contents l.opener ≡ g.O.Opener.contents l.initial.opener;
  told : Tells (g.O.Opener.IsLog l.initial.opener) (g.O.Opener.IsLog l.opener) [];
}
