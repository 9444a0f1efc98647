use Rattle.std.proofs.Common.{◌≡◌, ◌++◌}
use Rattle.build_commands.proofs.laying.append.Given as goal

abbrev pub invariant-loop-file : goal.invariant-loop-file
invariant-loop-file l = record {
  next : (goal.iterator-loop-file).can_next l.file-iterator;
  finite : (goal.iterator-loop-file).is_finite l.file-iterator;
  all : l.all.items ++ l.file-iterator.rest.items ≡ l.fn.all.items ++ l.fn.more.items;
}
