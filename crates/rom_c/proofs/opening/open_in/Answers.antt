use Rattle.std.proofs.Common.{◌≡◌, ℕ, List, Some, true, false, sym, ap, ◌∙◌, subst}
use Rattle.std.specs.Prelude.{◌||◌, is_some}
use Rattle.rom_tree.specs.Tree.{Node, is_directory, is_regular}
use Rattle.rom_tree.specs.Image.{Image, image_node}
use Rattle.rom_tree.proofs.Named.{node_number}
use Rattle.path_walk.specs.Resolution.{resolution, tree_namespace}
use Rattle.image_check.specs.Any.{any_view}
use Rattle.image_check.specs.Parts.{tree_of_parts}
use Rattle.rom_c.specs.Files.{IsOpenedBy, parts_in}
use Rattle.rom_c.proofs.Alone.{reported, IsOpenedBy-prop}
use Rattle.rom_c.proofs.Standing.{starts, kept}
use Rattle.rom_c.proofs.Moving.{file_starts}
use Rattle.rom_c.proofs.opening.open_in.Goals as goal

pub opened_at-requires : goal.opened_at-requires
opened_at-requires c =
    let i = c.args.image.now in
    let m = any_view c.image_of-held.result in
    let w = c.in-Ok.ensures.leads in
    let P : Image → Type 0 = λ m. image_node m c.in-Ok.node.0 ≡ Some w.0 in
    let e = subst P (sym c.walk.ensures.stays) w.2 in
    let b : true ≡ (is_directory w.0 || is_regular w.0) = sym c.if-can_open.true ∙ c.can_open.ensures w.0 e in
    let s = starts m i.bytes.now (parts_in i) c.in-Ok.node w.0 c.image_of-held.ensures.cursors w.2 b in
    ap is_some (sym (kept m i.bytes.now (parts_in i) c.in-Ok.node.0 0 c.image_of-held.ensures.tree) ∙ s)

pub returns-then-can_open-clause-opened : goal.returns-then-can_open-clause-opened
returns-then-can_open-clause-opened c = λ t h.
    let i = c.args.image.now in
    let m = any_view c.image_of-held.result in
    let w = c.in-Ok.ensures.leads in
    let P : Image → Type 0 = λ m. image_node m c.in-Ok.node.0 ≡ Some w.0 in
    let e = subst P (sym c.walk.ensures.stays) w.2 in
    let b : true ≡ (is_directory w.0 || is_regular w.0) = sym c.if-can_open.true ∙ c.can_open.ensures w.0 e in
    let f = c.opened_at.result in
    let s = starts m i.bytes.now (parts_in i) c.in-Ok.node w.0 c.image_of-held.ensures.cursors w.2 b in
    let z = file_starts f i m.tree w.0 c.in-Ok.node.0 c.opened_at.ensures.image c.opened_at.ensures.node
    c.opened_at.ensures.position s in
    let Q : List ℕ → Node → Type 0 = λ b u. IsOpenedBy u (resolution (tree_namespace b u) c.args.path.now true) f in
    let q : Q m.bytes m.tree = rw w.1 (rw (← b) (
      c.opened_at.ensures.error,
      c.opened_at.ensures.node ∙ sym (node_number m c.in-Ok.node.0 w.0 w.2),
      c.opened_at.ensures.position,
      z,
    )) in
    reported Q i.bytes.now m.bytes t (tree_of_parts i.bytes.now (parts_in i)) m.tree c.one_tree.ensures
    (IsOpenedBy-prop t (resolution (tree_namespace i.bytes.now t) c.args.path.now true) f)
    (i.tree c.requires) h c.image_of-held.ensures.bytes c.image_of-held.ensures.tree q

pub returns-else-can_open-clause-opened : goal.returns-else-can_open-clause-opened
returns-else-can_open-clause-opened c = λ t h.
    let i = c.args.image.now in
    let m = any_view c.image_of-held.result in
    let w = c.in-Ok.ensures.leads in
    let P : Image → Type 0 = λ m. image_node m c.in-Ok.node.0 ≡ Some w.0 in
    let e = subst P (sym c.walk.ensures.stays) w.2 in
    let b : false ≡ (is_directory w.0 || is_regular w.0) = sym c.if-can_open.false ∙ c.can_open.ensures w.0 e in
    let f = c.no_file.result in
    let Q : List ℕ → Node → Type 0 = λ b u. IsOpenedBy u (resolution (tree_namespace b u) c.args.path.now true) f in
    let q : Q m.bytes m.tree =
    rw w.1 (rw (← b) (c.no_file.ensures.error, c.no_file.ensures.numbers.0, c.no_file.ensures.numbers.1)) in
    reported Q i.bytes.now m.bytes t (tree_of_parts i.bytes.now (parts_in i)) m.tree c.one_tree.ensures
    (IsOpenedBy-prop t (resolution (tree_namespace i.bytes.now t) c.args.path.now true) f)
    (i.tree c.requires) h c.image_of-held.ensures.bytes c.image_of-held.ensures.tree q

pub returns-in-Err-clause-opened : goal.returns-in-Err-clause-opened
returns-in-Err-clause-opened c = λ t h.
    let i = c.args.image.now in
    let m = any_view c.image_of-held.result in
    let f = c.no_file-in-Err.result in
    let Q : List ℕ → Node → Type 0 = λ b u. IsOpenedBy u (resolution (tree_namespace b u) c.args.path.now true) f in
    let q : Q m.bytes m.tree = rw c.in-Err.ensures.leads (
      c.no_file-in-Err.ensures.error ∙ c.number.ensures,
      c.no_file-in-Err.ensures.numbers.0,
      c.no_file-in-Err.ensures.numbers.1,
    ) in
    reported Q i.bytes.now m.bytes t (tree_of_parts i.bytes.now (parts_in i)) m.tree c.one_tree.ensures
    (IsOpenedBy-prop t (resolution (tree_namespace i.bytes.now t) c.args.path.now true) f)
    (i.tree c.requires) h c.image_of-held.ensures.bytes c.image_of-held.ensures.tree q
