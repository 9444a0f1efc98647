use Rattle.std.proofs.Common.{◌≡◌, ℕ, List, ap, ◌∙◌}
use Rattle.std.proofs.Props.{props}
use Rattle.std.specs.Prelude.{is_some}
use Rattle.rom_tree.specs.Tree.{Node}
use Rattle.open_files.specs.Machine.{Open}
use Rattle.image_check.specs.Any.{any_view}
use Rattle.image_check.specs.Parts.{tree_of_parts}
use Rattle.rom_c.specs.Directories.{seekdir_on}
use Rattle.rom_c.specs.Files.{MovesTo, parts_in}
use Rattle.rom_c.specs.Opened.{stands_at}
use Rattle.rom_c.specs.Outcomes.{error_reported}
use Rattle.rom_c.proofs.Alone.{in_tree, both, MovesTo-prop}
use Rattle.rom_c.proofs.Standing.{some_by, same, kept}
use Rattle.rom_c.proofs.Moving.{file_moves}
use Rattle.rom_c.proofs.files.romtool_seekdir_v3.Goals as goal

pub seekdir_in-error-requires : goal.seekdir_in-error-requires
seekdir_in-error-requires c =
    let f = c.args.file.now in
    let all = f.image.bytes.now in
    let n = parts_in f.image in
    let m = any_view c.image_of.result in
    let z = c.if-not-is_open.ensures.open in
    let o = some_by (stands_at all n f.node f.position) (f.stands z.0 z.1) in
    let e = same m all n c.node_of-opened.result f.node f.position c.image_of.ensures.cursors
    c.node_of-opened.ensures.node c.node_of-opened.ensures.position in
    (o.0, e ∙ (kept m all n f.node f.position c.image_of.ensures.tree ∙ o.1))

pub returns-clause-sought : goal.returns-clause-sought
returns-clause-sought c = λ z t h.
    let f = c.args.file.now in
    let all = f.image.bytes.now in
    let n = parts_in f.image in
    let m = any_view c.image_of.result in
    let p = c.moved.result.position in
    let old = c.node_of-opened.result in
    let new = c.seekdir_in-error.new.opened in
    let A : List ℕ → Open Node → Type 0 =
    λ b o. c.seekdir_in-error.result ≡ error_reported (seekdir_on c.args.entries o.place) in
    let K : List ℕ → Node → Open Node → Type 0 =
    λ b u o. A b o × MovesTo u f p (seekdir_on c.args.entries o.place) in
    let s = ap is_some (kept m all n f.node f.position c.image_of.ensures.tree) ∙ f.stands z.0 z.1 in
    let e = same m all n old f.node f.position c.image_of.ensures.cursors c.node_of-opened.ensures.node
    c.node_of-opened.ensures.position in
    let moves = λ (o : Open Node). file_moves f m o old new p
    (seekdir_on c.args.entries o.place) c.image_of.ensures.cursors
    (c.seekdir_in-error.ensures.node ∙ c.node_of-opened.ensures.node) c.node_of-opened.ensures.position
    c.moved.ensures.position in
    in_tree K all m.bytes t (tree_of_parts all n) m.tree n f.node f.position c.one_tree.ensures
    (λ o. both (Prim.hlevel props) (MovesTo-prop t f p (seekdir_on c.args.entries o.place)))
    (f.image.tree z.0) h
    c.image_of.ensures.bytes c.image_of.ensures.tree s
    (λ o k. let r = c.seekdir_in-error.ensures.sought o (e ∙ k) in (r.0, moves o r.1))
