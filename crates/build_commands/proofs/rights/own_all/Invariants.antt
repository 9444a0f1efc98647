use Rattle.build_commands.specs.Rights.{owned}
use Rattle.build_commands.proofs.Mapped.{Mapping}
use Rattle.build_commands.proofs.rights.own_all.Given as goal

abbrev pub invariant-loop-index : goal.invariant-loop-index
invariant-loop-index l = Mapping (λ j. owned l.uid l.gid) l.fn.found l.found l.index
