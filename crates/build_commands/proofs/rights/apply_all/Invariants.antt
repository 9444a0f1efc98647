use Rattle.build_commands.proofs.Attributed.{Applying}
use Rattle.build_commands.proofs.rights.apply_all.Given as goal

abbrev pub invariant-loop-index : goal.invariant-loop-index
invariant-loop-index l = Applying l.notes l.fn.found l.found l.index
