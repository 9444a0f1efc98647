use Rattle.std.proofs.Common.{◌≡◌, ◌++◌, List, length}
use Rattle.rom_tree.specs.Names.{Name, names}
use Rattle.rom_tree.specs.Walks.{IsWalk, to_come}
use Rattle.image_compare.specs.Holders.{NoneHolds}
use Rattle.image_compare.proofs.holder.find_holder.Given as goal

-- none of the names before has the byte
abbrev pub invariant-loop-node : goal.invariant-loop-node
invariant-loop-node g l = record {
  walk : IsWalk (g.T.Viewed.image l.image) l.walk;
  before : List Name;
  names : before ++ to_come (g.T.Viewed.image l.image) l.walk ≡ names (g.T.Viewed.image l.image).tree;
  none : NoneHolds before l.place;
}

abbrev pub decreases-loop-node : goal.decreases-loop-node
decreases-loop-node g l = length (to_come (g.T.Viewed.image l.image) l.walk)
