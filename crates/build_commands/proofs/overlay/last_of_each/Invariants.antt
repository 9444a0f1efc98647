use Rattle.build_commands.proofs.Overlaid.{Holding}
use Rattle.build_commands.proofs.overlay.last_of_each.Given as goal

abbrev pub invariant-loop-file : goal.invariant-loop-file
invariant-loop-file l = record {
  next : (goal.iterator-loop-file).can_next l.file-iterator;
  finite : (goal.iterator-loop-file).is_finite l.file-iterator;
  state : Holding l.laid.items l.held l.file-iterator.rest.items l.fn.found.items;
}
