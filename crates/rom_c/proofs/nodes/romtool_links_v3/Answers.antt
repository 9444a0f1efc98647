use Rattle.std.proofs.Common.{◌≡◌, ℕ, List}
use Rattle.rom_tree.specs.Tree.{Node}
use Rattle.image_check.specs.Any.{any_view}
use Rattle.image_check.specs.Parts.{tree_of_parts}
use Rattle.std.proofs.Props.{props}
use Rattle.rom_c.specs.Linked.{links_of}
use Rattle.rom_c.proofs.Alone.{reported}
use Rattle.rom_c.specs.Files.{parts_in}
use Rattle.rom_c.proofs.nodes.romtool_links_v3.Goals as goal

pub returns-clause-counts : goal.returns-clause-counts
returns-clause-counts c = λ z t h.
    let i = c.args.image.now in
    let m = any_view c.image_of.result in
    let P : List ℕ → Node → Type 0 = λ b u. c.links_in.result ≡ links_of u c.args.node in
    reported P i.bytes.now m.bytes t (tree_of_parts i.bytes.now (parts_in i)) m.tree c.one_tree.ensures
    (Prim.hlevel props) (i.tree z) h c.image_of.ensures.bytes c.image_of.ensures.tree c.links_in.ensures
