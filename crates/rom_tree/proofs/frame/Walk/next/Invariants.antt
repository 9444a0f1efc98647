use Rattle.std.proofs.Common.{◌≡◌, true}
use Rattle.rom_tree.specs.Frames.{weight}
use Rattle.rom_tree.specs.Walks.{IsWalk, to_come}
use Rattle.rom_tree.proofs.frame.Walk.next.Given as goal

-- no name was given since
abbrev pub invariant-loop-self : goal.invariant-loop-self
invariant-loop-self g l = record {
  walk : IsWalk (g.T.Viewed.image l.image) l.self;
  begun : l.self.begun ≡ true;
  names : to_come (g.T.Viewed.image l.image) l.self ≡ to_come (g.T.Viewed.image l.image) l.fn.self;
}

abbrev pub decreases-loop-self : goal.decreases-loop-self
decreases-loop-self g l = weight (g.T.Viewed.image l.image) l.self.stack.items
