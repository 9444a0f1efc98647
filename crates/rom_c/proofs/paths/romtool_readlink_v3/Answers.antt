use Rattle.std.proofs.Common.{ℕ, List, false}
use Rattle.rom_tree.specs.Tree.{Node}
use Rattle.path_walk.specs.Resolution.{resolution, tree_namespace}
use Rattle.image_check.specs.Any.{any_view}
use Rattle.image_check.specs.Parts.{tree_of_parts}
use Rattle.rom_c.specs.Reported.{IsText}
use Rattle.rom_c.proofs.Alone.{reported, IsText-prop}
use Rattle.rom_c.specs.Files.{parts_in}
use Rattle.rom_c.proofs.paths.romtool_readlink_v3.Goals as goal

pub returns-clause-text : goal.returns-clause-text
returns-clause-text c = λ z t h.
    let i = c.args.image.now in
    let m = any_view c.image_of.result in
    let P : List ℕ → Node → Type 0 =
    λ b u. IsText (resolution (tree_namespace b u) c.args.path.now false) c.readlink_in.result in
    reported P i.bytes.now m.bytes t (tree_of_parts i.bytes.now (parts_in i)) m.tree c.one_tree.ensures
    (IsText-prop (resolution (tree_namespace i.bytes.now t) c.args.path.now false) c.readlink_in.result)
    (i.tree z) h
    c.image_of.ensures.bytes c.image_of.ensures.tree c.readlink_in.ensures
