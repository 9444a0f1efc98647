use Rattle.std.proofs.Common.{sym, subst, length, ◌<◌, List}
use Rattle.tree_extract.specs.Members.{Member}
use Rattle.tree_extract.proofs.Making.{name_safe_there, name_asked}
use Rattle.tree_extract.proofs.extracting.make_name.Goals as goal

pub make_name-requires-clause-first_within : goal.make_name-requires-clause-first_within
make_name-requires-clause-first_within g c =
    subst (λ (l : List Member). c.args.first < length l) (sym c.requires.same)
    (c.requires.members.further c.args.index c.args.first c.requires.within c.requires.further).0

pub make_name-requires-clause-safe : goal.make_name-requires-clause-safe
make_name-requires-clause-safe g c =
    name_safe_there g.D.Directory.fresh (g.T.Tree.members c.args.tree.now) _ c.requires.same c.requires.members
    c.args.index c.requires.within c.args.first _ c.requires.run c.requires.further c.requires.fresh

pub make_file-requires-clause-run : goal.make_file-requires-clause-run
make_file-requires-clause-run g c =
    name_asked g.D.Directory.fresh (g.T.Tree.members c.args.tree.now) _ c.requires.same c.requires.members
    c.args.index c.requires.within c.args.first c.make_name.result _ _ c.requires.run c.requires.further
    c.requires.fresh c.make_name.ensures.logged

pub returns-in-Ok-true-clause-run : goal.returns-in-Ok-true-clause-run
returns-in-Ok-true-clause-run g c =
    name_asked g.D.Directory.fresh (g.T.Tree.members c.args.tree.now) _ c.requires.same c.requires.members
    c.args.index c.requires.within c.args.first c.make_name.result _ _ c.requires.run c.requires.further
    c.requires.fresh c.make_name.ensures.logged

pub returns-in-Err-clause-run : goal.returns-in-Err-clause-run
returns-in-Err-clause-run g c =
    name_asked g.D.Directory.fresh (g.T.Tree.members c.args.tree.now) _ c.requires.same c.requires.members
    c.args.index c.requires.within c.args.first c.make_name.result _ _ c.requires.run c.requires.further
    c.requires.fresh c.make_name.ensures.logged
