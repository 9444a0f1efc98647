use Rattle.std.proofs.Common.{◌≡◌, ◌∙◌, subst, ℕ, List, ◌∷◌, Option}
use Rattle.std.specs.Io.KnownBytes.{Appends}
use Rattle.tree_extract.specs.Log.{MakeFile, Did}
use Rattle.tree_extract.specs.Members.{Member, bytes_at, kind_at, path_at}
use Rattle.tree_extract.proofs.Making.{some_file, free_there, file_refused, file_finished}
use Rattle.tree_extract.proofs.extracting.make_file.Goals as goal

pub make_file-requires-clause-safe : goal.make_file-requires-clause-safe
make_file-requires-clause-safe g c =
    let ms = g.T.Tree.members c.args.tree.now in
    free_there g.D.Directory.fresh ms _ c.requires.same c.requires.members c.args.index c.requires.within _
    c.requires.run (some_file (kind_at ms c.args.index) c.requires.file) c.requires.fresh

pub returns-in-Err-clause-run : goal.returns-in-Err-clause-run
returns-in-Err-clause-run g c =
    file_refused g.D.Directory.fresh (g.T.Tree.members c.args.tree.now) _ c.requires.same c.requires.members
    c.args.index c.requires.within c.make_file.result _ _ c.requires.run c.requires.file c.requires.fresh
    c.make_file.ensures.logged

pub returns-in-Err-write_contents-clause-run : goal.returns-in-Err-write_contents-clause-run
returns-in-Err-write_contents-clause-run g c =
    file_refused g.D.Directory.fresh (g.T.Tree.members c.args.tree.now) _ c.requires.same c.requires.members
    c.args.index c.requires.within c.make_file.result _ _ c.requires.run c.requires.file c.requires.fresh
    c.make_file.ensures.logged

pub returns-in-Ok-write_contents-clause-run : goal.returns-in-Ok-write_contents-clause-run
returns-in-Ok-write_contents-clause-run g c =
    let ms = g.T.Tree.members c.args.tree.now in
    file_finished g.D.Directory.fresh ms _ (c.make_file.ensures.same ∙ c.requires.same) c.requires.members
    c.args.index c.requires.within c.finish_file.result _ (g.D.Directory.log c.args.directory.now) _ _
    (file_refused g.D.Directory.fresh ms _ c.requires.same c.requires.members c.args.index c.requires.within
    c.make_file.result _ _ c.requires.run c.requires.file c.requires.fresh c.make_file.ensures.logged)
    c.requires.file
    (subst (λ (l : List Member). g.D.Directory.log c.make_file.new.self
    ≡ Did (MakeFile (path_at l c.args.index)) ∷ g.D.Directory.log c.args.directory.now) c.requires.same
    c.in-Ok.ensures.logged)
    (subst (λ (t : Option (List ℕ)). Appends t (g.D.File.ByteWrite.output c.write_contents.new.w).contents
    (bytes_at ms c.args.index)) c.in-Ok.ensures.empty c.in-Ok-write_contents.ensures)
    c.finish_file.ensures.logged
