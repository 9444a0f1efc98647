use Rattle.std.proofs.Common.{◌≡◌, length, max}
use Rattle.rom_tree.specs.Names.{names}
use Rattle.rom_tree.specs.Walks.{IsWalk, to_come}
use Rattle.program_report.specs.Effort.{longest_link}
use Rattle.program_report.proofs.effort.longest_link.Given as goal

-- the longest so far, or a longer one that is to come
abbrev pub invariant-loop-node : goal.invariant-loop-node
invariant-loop-node g l = record {
  walk : IsWalk (g.T.Viewed.image l.image) l.walk;
  rest : max l.longest (longest_link (to_come (g.T.Viewed.image l.image) l.walk))
      ≡ longest_link (names (g.T.Viewed.image l.image).tree);
}

abbrev pub decreases-loop-node : goal.decreases-loop-node
decreases-loop-node g l = length (to_come (g.T.Viewed.image l.image) l.walk)
