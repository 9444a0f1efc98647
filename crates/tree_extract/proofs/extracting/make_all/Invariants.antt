use Rattle.std.proofs.Common.{◌≡◌}
use Rattle.tree_extract.specs.Passes.{IsAt, number}
use Rattle.tree_extract.proofs.extracting.make_all.Given as goal

abbrev pub invariant-loop-index : goal.invariant-loop-index
invariant-loop-index g l = record {
  same : g.D.Directory.members l.directory ≡ g.T.Tree.members l.tree;
  place : IsAt g.D.Directory.fresh (g.T.Tree.members l.tree) (number l.phase) l.index (g.D.Directory.log l.directory);
}
