use Rattle.std.proofs.Common.{◌≡◌, ℕ, List, true, ap, ◌∙◌}
use Rattle.std.specs.Prelude.{IfSome}
use Rattle.rom_tree.specs.Tree.{Node, is_directory, node_at}
use Rattle.image_check.specs.Any.{any_view}
use Rattle.image_check.specs.Parts.{tree_of_parts}
use Rattle.std.proofs.Props.{props}
use Rattle.rom_c.specs.Linked.{parent_reported}
use Rattle.rom_c.specs.declared.answers.RomtoolNode.{RomtoolNode}
use Rattle.rom_c.proofs.Parents.{has_parent}
use Rattle.rom_c.proofs.Alone.{reported, if_prop, if_some, node_there}
use Rattle.rom_c.specs.Files.{parts_in}
use Rattle.rom_c.proofs.nodes.romtool_parent_v3.Goals as goal

pub parent_in-requires-clause-node : goal.parent_in-requires-clause-node
parent_in-requires-clause-node c =
    let i = c.args.image.now in
    let m = any_view c.image_of.result in
    let z = c.if-image-ne-OPEN.false in
    node_there i.bytes.now (tree_of_parts i.bytes.now (parts_in i)) m.tree c.args.directory (i.tree z)
    (c.requires z) c.image_of.ensures.tree

pub returns-clause-parent : goal.returns-clause-parent
returns-clause-parent c = λ z t h.
    let i = c.args.image.now in
    let m = any_view c.image_of.result in
    let n = c.args.directory in
    let P : List ℕ → Node → Type 0 = λ b u. IfSome (node_at u n) (λ x. c.parent_in.result ≡ parent_reported u x) in
    reported P i.bytes.now m.bytes t (tree_of_parts i.bytes.now (parts_in i)) m.tree c.one_tree.ensures
    (if_prop (node_at t n) (λ x. c.parent_in.result ≡ parent_reported t x) (λ x. Prim.hlevel props)) (i.tree z) h
    c.image_of.ensures.bytes c.image_of.ensures.tree
    (if_some (node_at m.tree n) (λ x. c.parent_in.result ≡ parent_reported m.tree x) c.parent_in.ensures)

pub returns-clause-some : goal.returns-clause-some
returns-clause-some c = λ z t h.
    let i = c.args.image.now in
    let m = any_view c.image_of.result in
    let n = c.args.directory in
    let Q : Node → Type 0 = λ x. is_directory x ≡ true → c.parent_in.result.error ≡ 0 in
    let P : List ℕ → Node → Type 0 = λ b u. IfSome (node_at u n) Q in
    reported P i.bytes.now m.bytes t (tree_of_parts i.bytes.now (parts_in i)) m.tree c.one_tree.ensures
    (if_prop (node_at t n) Q (λ x. Prim.hlevel props)) (i.tree z) h
    c.image_of.ensures.bytes c.image_of.ensures.tree
    (if_some (node_at m.tree n) Q (λ x e d. ap (λ (r : RomtoolNode). r.error) (c.parent_in.ensures x e)
    ∙ has_parent m.tree x n e d))
