use Rattle.std.proofs.Common.{List, ℕ, length}
use Rattle.rom_tree.specs.Names.{names}
use Rattle.rom_tree.specs.Walks.{IsWalk, to_come}
use Rattle.image_info.proofs.Counted.{HoldsNumbers, Counts}
use Rattle.image_info.proofs.tally.count_names.Given as goal

-- the names that were met are counted, and those to come are not
abbrev pub invariant-loop-node : goal.invariant-loop-node
invariant-loop-node g l = record {
  walk : IsWalk (g.T.Viewed.image l.image) l.walk;
  ks : List ℕ;
  holds : HoldsNumbers ks l.met;
  counts : Counts ks l.tally (to_come (g.T.Viewed.image l.image) l.walk) (names (g.T.Viewed.image l.image).tree);
}

abbrev pub decreases-loop-node : goal.decreases-loop-node
decreases-loop-node g l = length (to_come (g.T.Viewed.image l.image) l.walk)
