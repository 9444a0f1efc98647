use Rattle.std.proofs.Common.{length, ◌≡◌}
use Rattle.image_stream.specs.Answers.{Grew}
use Rattle.image_stream.specs.Sources.{IfKnown}
use Rattle.image_stream.specs.Outcomes.{FrontSized}
use Rattle.image_stream.proofs.measure.measure_all.Given as goal

abbrev pub invariant-loop-file : goal.invariant-loop-file
invariant-loop-file g l = record {
  room : length l.buffer ≡ length l.initial.buffer;
  known : g.S.Sources.known l.sources ≡ g.S.Sources.known l.initial.sources;
  files : g.S.Sources.files l.sources ≡ g.S.Sources.files l.initial.sources;
  names : g.S.Sources.names l.sources ≡ g.S.Sources.names l.initial.sources;
  grew : Grew (g.S.Sources.IsLog l.initial.sources) (g.S.Sources.IsLog l.sources);
  read : g.S.Sources.reads l.sources ≡ g.S.Sources.reads l.initial.sources;
  sized : IfKnown (g.S.Sources.known l.initial.sources) (FrontSized (g.L.Segmented.form l.layout).sizes l.file);
}
