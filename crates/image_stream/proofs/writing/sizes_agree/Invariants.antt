use Rattle.image_stream.specs.Outcomes.{FrontSized}
use Rattle.image_stream.proofs.writing.sizes_agree.Given as goal

abbrev pub invariant-loop-file : goal.invariant-loop-file
invariant-loop-file g l = FrontSized (g.L.Segmented.form l.layout).sizes l.file l.contents
