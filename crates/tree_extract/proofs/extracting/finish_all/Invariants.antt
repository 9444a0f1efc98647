use Rattle.std.proofs.Common.{◌≡◌, ◌≤◌, length}
use Rattle.tree_extract.specs.Passes.{IsSet}
use Rattle.tree_extract.proofs.extracting.finish_all.Given as goal

abbrev pub invariant-loop-left : goal.invariant-loop-left
invariant-loop-left g l = record {
  within : l.left ≤ length (g.T.Tree.members l.tree);
  same : g.D.Directory.members l.directory ≡ g.T.Tree.members l.tree;
  place : IsSet g.D.Directory.fresh (g.T.Tree.members l.tree) l.left (g.D.Directory.log l.directory);
}

abbrev pub decreases-loop-left : goal.decreases-loop-left
decreases-loop-left g l = l.left
