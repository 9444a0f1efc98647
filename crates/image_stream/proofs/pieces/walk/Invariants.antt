use Rattle.std.proofs.Common.{length, drop, ◌≡◌}
use Rattle.image_stream.specs.Segments.{SegmentsRise}
use Rattle.image_stream.specs.Steps.{IsDone, IsDoneRead, Sent}
use Rattle.image_stream.proofs.pieces.walk.Given as goal

abbrev pub invariant-loop-i : goal.invariant-loop-i
invariant-loop-i g l = record {
  room : length l.buffer ≡ length l.initial.buffer;
  known : g.S.Sources.known l.sources ≡ g.S.Sources.known l.initial.sources;
  files : g.S.Sources.files l.sources ≡ g.S.Sources.files l.initial.sources;
  names : g.S.Sources.names l.sources ≡ g.S.Sources.names l.initial.sources;
  read : g.S.Sources.reads l.sources ≡ g.S.Sources.reads l.initial.sources;
  loan : g.K.Sink.loan l.sink ≡ g.K.Sink.loan l.initial.sink;
  wrote : (g.K.Sink.output l.sink).failures ≡ (g.K.Sink.output l.initial.sink).failures;
  rises : SegmentsRise l.at (drop l.i (g.L.Segmented.form l.layout).segments) (g.L.Segmented.form l.layout).end;
  sent : Sent g.K.Sink.NeedsAll
      (IsDone (g.S.Sources.known l.initial.sources) (g.L.Segmented.form l.layout).start
      (g.L.Segmented.form l.layout).segments (g.L.Segmented.form l.layout).end l.at
      (drop l.i (g.L.Segmented.form l.layout).segments))
      (IsDoneRead (g.L.Segmented.form l.layout).start (g.L.Segmented.form l.layout).segments
      (g.L.Segmented.form l.layout).end l.at (drop l.i (g.L.Segmented.form l.layout).segments))
      (g.S.Sources.IsLog l.initial.sources) (g.S.Sources.IsLog l.sources)
      (g.K.Sink.output l.initial.sink).contents (g.K.Sink.output l.sink).contents (g.K.Sink.Is l.initial.sink)
      (g.K.Sink.Is l.sink);
}
