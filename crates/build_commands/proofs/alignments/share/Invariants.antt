use Rattle.build_commands.specs.Alignments.{shared_by}
use Rattle.build_commands.proofs.Mapped.{Mapping}
use Rattle.build_commands.proofs.alignments.share.Given as goal

abbrev pub invariant-loop-index : goal.invariant-loop-index
invariant-loop-index l = Mapping (λ j. shared_by l.largest) l.fn.found l.found l.index
