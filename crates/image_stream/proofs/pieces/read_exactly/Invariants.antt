use Rattle.std.proofs.Common.{length, ◌-◌, ◌≡◌, ◌≤◌, take, drop}
use Rattle.image_stream.specs.Answers.{AreReads}
use Rattle.image_stream.specs.Sources.{IfKnown, content_of}
use Rattle.image_stream.specs.Steps.{Read}
use Rattle.image_stream.proofs.pieces.read_exactly.Given as goal

abbrev pub invariant-loop-done : goal.invariant-loop-done
invariant-loop-done g l = record {
  within : l.done ≤ length l.buffer;
  room : length l.buffer ≡ length l.initial.buffer;
  known : g.S.Sources.known l.sources ≡ g.S.Sources.known l.initial.sources;
  files : g.S.Sources.files l.sources ≡ g.S.Sources.files l.initial.sources;
  names : g.S.Sources.names l.sources ≡ g.S.Sources.names l.initial.sources;
  quiet : g.S.Sources.reads l.sources ≡ g.S.Sources.reads l.initial.sources;
  logged : Read (λ answers xs. AreReads l.file l.at answers xs) (g.S.Sources.IsLog l.initial.sources)
      (g.S.Sources.IsLog l.sources) (take l.done l.buffer);
  read : IfKnown (g.S.Sources.known l.initial.sources)
      (λ cs. take l.done l.buffer ≡ take l.done (drop l.at (content_of cs l.file)));
}

abbrev pub decreases-loop-done : goal.decreases-loop-done
decreases-loop-done g l = length l.buffer - l.done
