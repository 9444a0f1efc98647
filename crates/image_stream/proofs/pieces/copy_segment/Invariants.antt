use Rattle.std.proofs.Common.{length, ◌-◌, ◌≡◌, ◌≤◌, ◌<◌, ◌%◌}
use Rattle.image_stream.specs.Segments.{segment_at}
use Rattle.image_stream.specs.Steps.{IsFront, IsFrontRead, Sent}
use Rattle.image_stream.proofs.pieces.copy_segment.Given as goal

abbrev pub invariant-loop-from : goal.invariant-loop-from
invariant-loop-from g l = record {
  within : l.from ≤ l.len;
  words : l.from < l.len → l.from % 4 ≡ 0;
  room : length l.buffer ≡ length l.initial.buffer;
  known : g.S.Sources.known l.sources ≡ g.S.Sources.known l.initial.sources;
  files : g.S.Sources.files l.sources ≡ g.S.Sources.files l.initial.sources;
  names : g.S.Sources.names l.sources ≡ g.S.Sources.names l.initial.sources;
  read : g.S.Sources.reads l.sources ≡ g.S.Sources.reads l.initial.sources;
  loan : g.K.Sink.loan l.sink ≡ g.K.Sink.loan l.initial.sink;
  wrote : (g.K.Sink.output l.sink).failures ≡ (g.K.Sink.output l.initial.sink).failures;
  sent : Sent g.K.Sink.NeedsAll
      (IsFront (g.S.Sources.known l.initial.sources) (segment_at (g.L.Segmented.form l.layout).segments l.i) l.from)
      (IsFrontRead (segment_at (g.L.Segmented.form l.layout).segments l.i) l.from)
      (g.S.Sources.IsLog l.initial.sources) (g.S.Sources.IsLog l.sources)
      (g.K.Sink.output l.initial.sink).contents (g.K.Sink.output l.sink).contents (g.K.Sink.Is l.initial.sink)
      (g.K.Sink.Is l.sink);
}

abbrev pub decreases-loop-from : goal.decreases-loop-from
decreases-loop-from g l = l.len - l.from
