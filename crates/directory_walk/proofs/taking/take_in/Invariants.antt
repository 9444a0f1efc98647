use Rattle.std.proofs.Common.{◌≡◌, length}
use Rattle.std.specs.Vec.Iter.{into_iter_items, into_iter_len}
use Rattle.directory_walk.specs.Views.{names_of, paths_of}
use Rattle.directory_walk.proofs.Taken.{Left}
use Rattle.directory_walk.proofs.taking.take_in.Given as goal

abbrev pub invariant-loop-one : goal.invariant-loop-one
invariant-loop-one g l = record {
  left : Left (names_of l.initial.found.items) (names_of l.found.items) (paths_of l.initial.waiting.items)
      (paths_of l.waiting.items)
      (into_iter_items l.initial.one-iterator) (into_iter_items l.one-iterator);
  len : into_iter_len l.one-iterator ≡ length (into_iter_items l.one-iterator);
}
