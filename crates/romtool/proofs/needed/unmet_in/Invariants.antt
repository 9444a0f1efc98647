use Rattle.image_check.specs.Any.{any_view}
use Rattle.lookups.specs.Inner.{inner}
use Rattle.rom_tree.specs.Tree.{IsShallow}
use Rattle.romtool.proofs.needed.unmet_in.Given as goal

abbrev pub invariant-loop-number : goal.invariant-loop-number
invariant-loop-number l = record {
  next : (goal.iterator-loop-number).can_next l.number-iterator;
  finite : (goal.iterator-loop-number).is_finite l.number-iterator;
  shallow : IsShallow (any_view (inner l.search.image)).tree;
}
