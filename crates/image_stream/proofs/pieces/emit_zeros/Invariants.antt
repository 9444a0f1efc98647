use Rattle.std.proofs.Common.{◌-◌, ◌≡◌, ◌≤◌}
use Rattle.image_stream.specs.Segments.{zeros}
use Rattle.image_stream.specs.Steps.{Gone}
use Rattle.image_stream.proofs.pieces.emit_zeros.Given as goal

abbrev pub invariant-loop-left : goal.invariant-loop-left
invariant-loop-left g l = record {
  within : l.left ≤ l.count;
  loan : g.K.Sink.loan l.sink ≡ g.K.Sink.loan l.initial.sink;
  wrote : (g.K.Sink.output l.sink).failures ≡ (g.K.Sink.output l.initial.sink).failures;
  gone : Gone (λ xs. xs ≡ zeros (l.count - l.left)) (g.K.Sink.output l.initial.sink).contents
      (g.K.Sink.output l.sink).contents (g.K.Sink.Is l.initial.sink) (g.K.Sink.Is l.sink);
}

abbrev pub decreases-loop-left : goal.decreases-loop-left
decreases-loop-left g l = l.left
