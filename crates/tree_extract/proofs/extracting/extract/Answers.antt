use Rattle.tree_extract.proofs.Steps.{next_pass}
use Rattle.tree_extract.proofs.DirectoryRights.{begin}
use Rattle.tree_extract.proofs.extracting.extract.Goals as goal

pub finish_all-requires-clause-place : goal.finish_all-requires-clause-place
finish_all-requires-clause-place g c =
    let ms = g.T.Tree.members c.args.tree.now in
    begin g.D.Directory.fresh ms _ (next_pass g.D.Directory.fresh ms 2 _ c.in_ok-make_all-3.ensures.ok)
