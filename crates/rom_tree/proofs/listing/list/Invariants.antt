use Rattle.std.proofs.Common.{◌≡◌, ◌++◌, List, ℕ, false, length}
use Rattle.rom_fields.specs.Written.{Puts, sink}
use Rattle.rom_tree.specs.Listing.{list_text}
use Rattle.rom_tree.specs.Names.{listed}
use Rattle.rom_tree.specs.Walks.{IsWalk, to_come}
use Rattle.rom_tree.proofs.listing.list.Given as goal

-- `done` was put, and the lines of the names that are to come complete it
abbrev pub invariant-loop-failed : goal.invariant-loop-failed
invariant-loop-failed g l = record {
  walk : IsWalk (g.T.Viewed.image l.image) l.walk;
  done : List ℕ;
  puts : Puts (sink (g.W.ByteWrite.output l.fn.w) false) (sink (g.W.ByteWrite.output l.w) l.failed) done;
  rest : done ++ listed (g.T.Viewed.image l.image).bytes (to_come (g.T.Viewed.image l.image) l.walk)
      ≡ list_text (g.T.Viewed.image l.image).bytes (g.T.Viewed.image l.image).tree;
}

abbrev pub decreases-loop-failed : goal.decreases-loop-failed
decreases-loop-failed g l = length (to_come (g.T.Viewed.image l.image) l.walk)
