use Rattle.std.proofs.Common.{ℕ, List}
use Rattle.std.specs.Prelude.{IsSome}
use Rattle.std.specs.Bool.{IsTrue}
use Rattle.std.proofs.Props.{props}
use Rattle.rom_tree.specs.Tree.{Node, node_at}
use Rattle.image_check.specs.Any.{any_view}
use Rattle.image_check.specs.Parts.{tree_of_parts}
use Rattle.rom_c.proofs.Alone.{reported}
use Rattle.rom_c.specs.Files.{parts_in}
use Rattle.rom_c.proofs.paths.romtool_is_node_v3.Goals as goal

pub returns-clause-node : goal.returns-clause-node
returns-clause-node c = λ z t h.
    let i = c.args.image.now in
    let m = any_view c.image_of.result in
    let n = c.args.node in
    let r = c.is_node.result in
    let P : List ℕ → Node → Type 0 =
    λ b u. (IsTrue r → IsSome (node_at u n)) × (IsSome (node_at u n) → IsTrue r) in
    reported P i.bytes.now m.bytes t (tree_of_parts i.bytes.now (parts_in i)) m.tree c.one_tree.ensures
    (Prim.hlevel props) (i.tree z) h c.image_of.ensures.bytes c.image_of.ensures.tree c.is_node.ensures
