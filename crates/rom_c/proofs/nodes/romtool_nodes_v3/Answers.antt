use Rattle.std.proofs.Common.{◌≡◌, ◌==◌, ℕ, List, length}
use Rattle.std.specs.Prelude.{take}
use Rattle.std.specs.List.{count_by}
use Rattle.rom_tree.specs.Tree.{Node, nodes}
use Rattle.image_check.specs.Any.{any_view}
use Rattle.image_check.specs.Parts.{tree_of_parts}
use Rattle.std.proofs.Props.{props}
use Rattle.rom_c.specs.Linked.{links_of}
use Rattle.rom_c.proofs.Alone.{reported}
use Rattle.rom_c.specs.Files.{parts_in}
use Rattle.rom_c.proofs.nodes.romtool_nodes_v3.Goals as goal

pub returns-clause-count : goal.returns-clause-count
returns-clause-count c = λ z t h.
    let i = c.args.image.now in
    let m = any_view c.image_of.result in
    let P : List ℕ → Node → Type 0 = λ b u. c.nodes_in.result ≡ length (nodes u) in
    reported P i.bytes.now m.bytes t (tree_of_parts i.bytes.now (parts_in i)) m.tree c.one_tree.ensures
    (Prim.hlevel props) (i.tree z) h c.image_of.ensures.bytes c.image_of.ensures.tree c.nodes_in.ensures.count

pub returns-clause-links : goal.returns-clause-links
returns-clause-links c = λ z r t h n.
    let i = c.args.image.now in
    let m = any_view c.image_of.result in
    let all : List ℕ = take c.nodes_in.result c.nodes_in.new.numbers in
    let P : List ℕ → Node → Type 0 = λ b u. count_by (λ v. v == n) all ≡ links_of u n in
    reported P i.bytes.now m.bytes t (tree_of_parts i.bytes.now (parts_in i)) m.tree c.one_tree.ensures
    (Prim.hlevel props) (i.tree z) h c.image_of.ensures.bytes c.image_of.ensures.tree (c.nodes_in.ensures.links r n)
