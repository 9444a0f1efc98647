use Rattle.std.specs.List.{slice_get}
use Rattle.build_commands.proofs.Aligning.{with_align}
use Rattle.build_commands.proofs.Mapped.{Mapping}
use Rattle.build_commands.proofs.alignments.align_each.Given as goal

abbrev pub invariant-loop-index : goal.invariant-loop-index
invariant-loop-index l = Mapping (λ j. with_align (slice_get l.aligns j)) l.fn.found l.found l.index
