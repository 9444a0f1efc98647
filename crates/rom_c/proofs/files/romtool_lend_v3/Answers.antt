use Rattle.std.proofs.Common.{◌≡◌, ℕ, List, None, ap, ◌∙◌}
use Rattle.std.proofs.Props.{props}
use Rattle.std.specs.Prelude.{is_some}
use Rattle.rom_tree.specs.Tree.{Node}
use Rattle.open_files.specs.Machine.{Open, lend_on}
use Rattle.image_check.specs.Any.{any_view}
use Rattle.image_check.specs.Parts.{tree_of_parts}
use Rattle.rom_c.specs.Files.{MovesTo, parts_in}
use Rattle.rom_c.specs.Opened.{stands_at}
use Rattle.rom_c.specs.Outcomes.{place_reported}
use Rattle.rom_c.proofs.Alone.{in_tree, both, MovesTo-prop}
use Rattle.rom_c.proofs.Standing.{some_by, same, kept}
use Rattle.rom_c.proofs.Moving.{file_moves}
use Rattle.rom_c.proofs.files.romtool_lend_v3.Goals as goal

pub lend_in-place-requires : goal.lend_in-place-requires
lend_in-place-requires c =
    let f = c.args.file.now in
    let all = f.image.bytes.now in
    let n = parts_in f.image in
    let m = any_view c.image_of.result in
    let z = c.if-not-is_open.ensures.open in
    let o = some_by (stands_at all n f.node f.position) (f.stands z.0 z.1) in
    let e = same m all n c.node_of-opened.result f.node f.position c.image_of.ensures.cursors
    c.node_of-opened.ensures.node c.node_of-opened.ensures.position in
    (o.0, e ∙ (kept m all n f.node f.position c.image_of.ensures.tree ∙ o.1))

pub returns-clause-lent : goal.returns-clause-lent
returns-clause-lent c = λ z t h.
    let f = c.args.file.now in
    let all = f.image.bytes.now in
    let n = parts_in f.image in
    let m = any_view c.image_of.result in
    let p = c.moved.result.position in
    let old = c.node_of-opened.result in
    let new = c.lend_in-place.new.opened in
    let A : List ℕ → Open Node → Type 0 =
    λ b o. c.lend_in-place.result ≡ place_reported (lend_on None b c.args.max o.place o.position) in
    let K : List ℕ → Node → Open Node → Type 0 =
    λ b u o. A b o × MovesTo u f p (lend_on None b c.args.max o.place o.position) in
    let s = ap is_some (kept m all n f.node f.position c.image_of.ensures.tree) ∙ f.stands z.0 z.1 in
    let e = same m all n old f.node f.position c.image_of.ensures.cursors c.node_of-opened.ensures.node
    c.node_of-opened.ensures.position in
    let moves = λ (o : Open Node). file_moves f m o old new p
    (lend_on None m.bytes c.args.max o.place o.position) c.image_of.ensures.cursors
    (c.lend_in-place.ensures.node ∙ c.node_of-opened.ensures.node) c.node_of-opened.ensures.position
    c.moved.ensures.position in
    in_tree K all m.bytes t (tree_of_parts all n) m.tree n f.node f.position c.one_tree.ensures
    (λ o. both (Prim.hlevel props) (MovesTo-prop t f p (lend_on None all c.args.max o.place o.position)))
    (f.image.tree z.0) h
    c.image_of.ensures.bytes c.image_of.ensures.tree s
    (λ o k. let r = c.lend_in-place.ensures.lent o (e ∙ k) in (r.0, moves o r.1))
