use Rattle.std.proofs.Common.{◌≡◌, ℕ, length}
use Rattle.std.specs.BTreeMap.{get}
use Rattle.std.specs.Ordering.{nat_cmp}
use Rattle.rom_tree.specs.Names.{names}
use Rattle.rom_tree.specs.Walks.{IsWalk, to_come}
use Rattle.linux_misreads.specs.Tables.{either, first_known, view}
use Rattle.linux_misreads.proofs.files.first_of_tables.Given as goal

-- what the map has, and otherwise what the names to come have, is the first of all names
abbrev pub invariant-loop-node : goal.invariant-loop-node
invariant-loop-node l = record {
  walk : IsWalk (view l.image) l.walk;
  firsts : (t : ℕ) → either (get nat_cmp l.first t) (first_known l.image t (to_come (view l.image) l.walk))
      ≡ first_known l.image t (names (view l.image).tree);
}

abbrev pub decreases-loop-node : goal.decreases-loop-node
decreases-loop-node l = length (to_come (view l.image) l.walk)
