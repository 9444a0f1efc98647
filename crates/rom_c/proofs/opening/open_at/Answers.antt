use Rattle.std.proofs.Common.{◌≡◌, ℕ, List, true, false, sym, ap, ◌∙◌}
use Rattle.std.specs.Prelude.{◌||◌, is_some, IfSome}
use Rattle.rom_tree.specs.Tree.{Node, node_at, is_directory, is_regular}
use Rattle.rom_tree.proofs.Named.{node_number, node_by}
use Rattle.image_check.specs.Any.{any_view}
use Rattle.image_check.specs.Parts.{tree_of_parts}
use Rattle.rom_c.specs.Files.{IsOpenAt, parts_in}
use Rattle.rom_c.proofs.Alone.{reported, if_prop, if_some, node_there, IsOpenAt-prop}
use Rattle.rom_c.proofs.Standing.{starts, kept}
use Rattle.rom_c.proofs.Moving.{file_starts}
use Rattle.rom_c.proofs.opening.open_at.Goals as goal

pub can_open-requires : goal.can_open-requires
can_open-requires c =
    let i = c.args.image.now in
    let m = any_view c.image_of.result in
    node_there i.bytes.now (tree_of_parts i.bytes.now (parts_in i)) m.tree c.args.node.0
    (i.tree c.requires.open) c.requires.node
    c.image_of.ensures.tree

pub opened_at-requires : goal.opened_at-requires
opened_at-requires c =
    let i = c.args.image.now in
    let m = any_view c.image_of.result in
    let n = c.args.node in
    let has = node_there i.bytes.now (tree_of_parts i.bytes.now (parts_in i)) m.tree n.0
    (i.tree c.requires.open) c.requires.node c.image_of.ensures.tree in
    let w = node_by m n.0 has in
    let b : true ≡ (is_directory w.0 || is_regular w.0) = sym c.if-can_open.true ∙ c.can_open.ensures w.0 w.1 in
    let s = starts m i.bytes.now (parts_in i) n w.0 c.image_of.ensures.cursors w.1 b in
    ap is_some (sym (kept m i.bytes.now (parts_in i) n.0 0 c.image_of.ensures.tree) ∙ s)

pub returns-then-can_open-clause-opened : goal.returns-then-can_open-clause-opened
returns-then-can_open-clause-opened c = λ t h.
    let i = c.args.image.now in
    let m = any_view c.image_of.result in
    let n = c.args.node in
    let f = c.opened_at.result in
    let Q : Node → Node → Type 0 = λ u x. IsOpenAt u x f (is_directory x || is_regular x) in
    let P : List ℕ → Node → Type 0 = λ b u. IfSome (node_at u n.0) (Q u) in
    let q : P m.bytes m.tree = if_some (node_at m.tree n.0) (Q m.tree) (λ x e.
    let b : true ≡ (is_directory x || is_regular x) = sym c.if-can_open.true ∙ c.can_open.ensures x e in
    let s = starts m i.bytes.now (parts_in i) n x c.image_of.ensures.cursors e b in
    let z = file_starts f i m.tree x n.0 c.opened_at.ensures.image c.opened_at.ensures.node c.opened_at.ensures.position
    s in
    rw (← b) (
      c.opened_at.ensures.error,
      c.opened_at.ensures.node ∙ sym (node_number m n.0 x e),
      c.opened_at.ensures.position,
      z,
    )) in
    reported P i.bytes.now m.bytes t (tree_of_parts i.bytes.now (parts_in i)) m.tree c.one_tree.ensures
    (if_prop (node_at t n.0) (Q t) (λ x. IsOpenAt-prop t x f (is_directory x || is_regular x)))
    (i.tree c.requires.open) h
    c.image_of.ensures.bytes c.image_of.ensures.tree q

pub returns-else-can_open-clause-opened : goal.returns-else-can_open-clause-opened
returns-else-can_open-clause-opened c = λ t h.
    let i = c.args.image.now in
    let m = any_view c.image_of.result in
    let n = c.args.node in
    let f = c.no_file.result in
    let Q : Node → Node → Type 0 = λ u x. IsOpenAt u x f (is_directory x || is_regular x) in
    let P : List ℕ → Node → Type 0 = λ b u. IfSome (node_at u n.0) (Q u) in
    let q : P m.bytes m.tree = if_some (node_at m.tree n.0) (Q m.tree) (λ x e.
    let b : false ≡ (is_directory x || is_regular x) = sym c.if-can_open.false ∙ c.can_open.ensures x e in
    rw (← b) (c.no_file.ensures.error, c.no_file.ensures.numbers.0, c.no_file.ensures.numbers.1)) in
    reported P i.bytes.now m.bytes t (tree_of_parts i.bytes.now (parts_in i)) m.tree c.one_tree.ensures
    (if_prop (node_at t n.0) (Q t) (λ x. IsOpenAt-prop t x f (is_directory x || is_regular x)))
    (i.tree c.requires.open) h
    c.image_of.ensures.bytes c.image_of.ensures.tree q
