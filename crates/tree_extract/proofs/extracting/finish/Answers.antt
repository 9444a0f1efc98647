use Rattle.tree_extract.proofs.Making.{rights_safe_there, rights_asked, rights_set, is_directory}
use Rattle.tree_extract.proofs.extracting.finish.Goals as goal

pub set_rights-requires-clause-safe : goal.set_rights-requires-clause-safe
set_rights-requires-clause-safe g c =
    rights_safe_there g.D.Directory.fresh (g.T.Tree.members c.args.tree.now) _ c.requires.same c.requires.members
    c.args.index c.requires.within _ c.requires.place
    (is_directory _ c.args.index _ c.kind-kind.ensures c.if-not-is_made_in.ensures)

pub returns-clause-run : goal.returns-clause-run
returns-clause-run g c =
    rights_asked g.D.Directory.fresh (g.T.Tree.members c.args.tree.now) _ c.requires.same c.requires.members
    c.args.index c.requires.within c.set_rights.result _ _ c.requires.place
    (is_directory _ c.args.index _ c.kind-kind.ensures c.if-not-is_made_in.ensures) c.set_rights.ensures.logged

pub returns-clause-ok : goal.returns-clause-ok
returns-clause-ok g c =
    rights_set g.D.Directory.fresh (g.T.Tree.members c.args.tree.now) _ c.requires.same c.requires.members
    c.args.index c.requires.within c.set_rights.result _ _ c.requires.place
    (is_directory _ c.args.index _ c.kind-kind.ensures c.if-not-is_made_in.ensures) c.set_rights.ensures.logged
