use Rattle.std.proofs.Common.{◌≡◌, ℕ, List}
use Rattle.std.specs.Prelude.{IfSome}
use Rattle.rom_tree.specs.Tree.{Node, node_at}
use Rattle.image_check.specs.Any.{any_view}
use Rattle.image_check.specs.Parts.{tree_of_parts}
use Rattle.std.proofs.Props.{props}
use Rattle.rom_c.specs.Reported.{entry_reported}
use Rattle.rom_c.proofs.Alone.{reported, if_prop, if_some, node_there}
use Rattle.rom_c.specs.Files.{parts_in}
use Rattle.rom_c.proofs.paths.romtool_lookup_at_v3.Goals as goal

pub lookup_at-requires : goal.lookup_at-requires
lookup_at-requires c =
    let i = c.args.image.now in
    let m = any_view c.image_of.result in
    let z = c.if-image-ne-OPEN.false in
    node_there i.bytes.now (tree_of_parts i.bytes.now (parts_in i)) m.tree c.args.directory (i.tree z)
    (c.requires z) c.image_of.ensures.tree

pub returns-clause-entry : goal.returns-clause-entry
returns-clause-entry c = λ z t h.
    let i = c.args.image.now in
    let m = any_view c.image_of.result in
    let n = c.args.directory in
    let Q : Node → Type 0 = λ x. c.lookup_at.result ≡ entry_reported x c.args.name.now in
    let P : List ℕ → Node → Type 0 = λ b u. IfSome (node_at u n) Q in
    reported P i.bytes.now m.bytes t (tree_of_parts i.bytes.now (parts_in i)) m.tree c.one_tree.ensures
    (if_prop (node_at t n) Q (λ x. Prim.hlevel props)) (i.tree z) h
    c.image_of.ensures.bytes c.image_of.ensures.tree (if_some (node_at m.tree n) Q c.lookup_at.ensures)
