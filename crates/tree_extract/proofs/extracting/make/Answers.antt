use Rattle.std.proofs.Common.{rules, sym, ◌∙◌}
use Rattle.tree_extract.proofs.Steps.{fresh_here, skip}
use Rattle.tree_extract.specs.Passes.{number}
use Rattle.tree_extract.proofs.Making.{kind_rank, other_rank, free_there, directory_made, directory_asked, link_made}
use Rattle.tree_extract.proofs.Making.{link_asked, file_passed, name_passed}
use Rattle.tree_extract.proofs.extracting.make.Goals as goal

pub returns-then-not-is_made_in-clause-ok : goal.returns-then-not-is_made_in-clause-ok
returns-then-not-is_made_in-clause-ok g c =
    let ms = g.T.Tree.members c.args.tree.now in
    skip g.D.Directory.fresh ms (number c.args.phase) c.args.index _ c.requires.place
    (other_rank ms c.args.index (number c.args.phase) _ c.kind-kind.ensures c.if-not-is_made_in.ensures)

pub make_directory-requires-clause-safe : goal.make_directory-requires-clause-safe
make_directory-requires-clause-safe g c =
    let ms = g.T.Tree.members c.args.tree.now in
    let is = kind_rank ms c.args.index (number c.args.phase) _ c.kind-kind.ensures c.if-not-is_made_in.ensures in
    free_there g.D.Directory.fresh ms _ c.requires.same c.requires.members c.args.index c.requires.within _
    c.requires.place.run (λ nothing. absurd (cc))
    (fresh_here g.D.Directory.fresh ms (number c.args.phase) c.args.index _ c.requires.place c.requires.within is)

pub make_symlink-requires-clause-safe : goal.make_symlink-requires-clause-safe
make_symlink-requires-clause-safe g c =
    let ms = g.T.Tree.members c.args.tree.now in
    let is = kind_rank ms c.args.index (number c.args.phase) _ c.kind-kind.ensures c.if-not-is_made_in.ensures in
    free_there g.D.Directory.fresh ms _ c.requires.same c.requires.members c.args.index c.requires.within _
    c.requires.place.run (λ nothing. absurd (cc))
    (fresh_here g.D.Directory.fresh ms (number c.args.phase) c.args.index _ c.requires.place c.requires.within is)

pub returns-in-Directory-clause-run : goal.returns-in-Directory-clause-run
returns-in-Directory-clause-run g c =
    let ms = g.T.Tree.members c.args.tree.now in
    directory_asked g.D.Directory.fresh ms _ c.requires.same c.requires.members c.args.index c.requires.within
    c.make_directory.result (number c.args.phase) _ _ c.requires.place
    (kind_rank ms c.args.index (number c.args.phase) _ c.kind-kind.ensures c.if-not-is_made_in.ensures)
    (sym c.kind-kind.ensures ∙ c.in-Directory.is) c.make_directory.ensures.logged

pub returns-in-Directory-clause-ok : goal.returns-in-Directory-clause-ok
returns-in-Directory-clause-ok g c =
    let ms = g.T.Tree.members c.args.tree.now in
    directory_made g.D.Directory.fresh ms _ c.requires.same c.requires.members c.args.index c.requires.within
    c.make_directory.result (number c.args.phase) _ _ c.requires.place
    (kind_rank ms c.args.index (number c.args.phase) _ c.kind-kind.ensures c.if-not-is_made_in.ensures)
    (sym c.kind-kind.ensures ∙ c.in-Directory.is) c.make_directory.ensures.logged

pub returns-in-File-clause-ok : goal.returns-in-File-clause-ok
returns-in-File-clause-ok g c =
    let ms = g.T.Tree.members c.args.tree.now in
    file_passed g.D.Directory.fresh ms _ c.requires.same c.requires.members c.args.index c.requires.within
    c.make_file.result (number c.args.phase) _ _ c.requires.place
    (kind_rank ms c.args.index (number c.args.phase) _ c.kind-kind.ensures c.if-not-is_made_in.ensures)
    (sym c.kind-kind.ensures ∙ c.in-File.is) c.make_file.ensures.ok

pub returns-in-Further-clause-ok : goal.returns-in-Further-clause-ok
returns-in-Further-clause-ok g c =
    let ms = g.T.Tree.members c.args.tree.now in
    name_passed g.D.Directory.fresh ms _ c.requires.same c.requires.members c.args.index c.requires.within
    _ (number c.args.phase) c.in-Further.first _ _ c.requires.place
    (kind_rank ms c.args.index (number c.args.phase) _ c.kind-kind.ensures c.if-not-is_made_in.ensures)
    (sym c.kind-kind.ensures ∙ c.in-Further.is) (search rules)

pub returns-in-Symlink-clause-run : goal.returns-in-Symlink-clause-run
returns-in-Symlink-clause-run g c =
    let ms = g.T.Tree.members c.args.tree.now in
    link_asked g.D.Directory.fresh ms _ c.requires.same c.requires.members c.args.index c.requires.within
    c.make_symlink.result (number c.args.phase) _ _ _ c.requires.place
    (kind_rank ms c.args.index (number c.args.phase) _ c.kind-kind.ensures c.if-not-is_made_in.ensures)
    (sym c.kind-kind.ensures ∙ c.in-Symlink.is) c.link_text.ensures c.make_symlink.ensures.logged

pub returns-in-Symlink-clause-ok : goal.returns-in-Symlink-clause-ok
returns-in-Symlink-clause-ok g c =
    let ms = g.T.Tree.members c.args.tree.now in
    link_made g.D.Directory.fresh ms _ c.requires.same c.requires.members c.args.index c.requires.within
    c.make_symlink.result (number c.args.phase) _ _ _ c.requires.place
    (kind_rank ms c.args.index (number c.args.phase) _ c.kind-kind.ensures c.if-not-is_made_in.ensures)
    (sym c.kind-kind.ensures ∙ c.in-Symlink.is) c.link_text.ensures c.make_symlink.ensures.logged
