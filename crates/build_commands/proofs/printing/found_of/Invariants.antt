use Rattle.std.proofs.Common.{◌≡◌, length}
use Rattle.std.specs.Vec.Iter.{into_iter_items, into_iter_len}
use Rattle.build_commands.proofs.ScanFound.{Left}
use Rattle.build_commands.proofs.printing.found_of.Given as goal

abbrev pub invariant-loop-entry : goal.invariant-loop-entry
invariant-loop-entry l = record {
  left : Left (into_iter_items l.initial.entry-iterator) (into_iter_items l.entry-iterator) l.found.items;
  len : into_iter_len l.entry-iterator ≡ length (into_iter_items l.entry-iterator);
}
