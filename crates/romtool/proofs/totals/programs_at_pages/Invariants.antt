use Rattle.std.proofs.Common.{length}
use Rattle.rom_tree.specs.Walks.{IsWalk, to_come}
use Rattle.romtool.proofs.totals.programs_at_pages.Given as goal

abbrev pub invariant-loop-node : goal.invariant-loop-node
invariant-loop-node g l = record { walk : IsWalk (g.T.Viewed.image l.image) l.walk }

abbrev pub decreases-loop-node : goal.decreases-loop-node
decreases-loop-node g l = length (to_come (g.T.Viewed.image l.image) l.walk)
