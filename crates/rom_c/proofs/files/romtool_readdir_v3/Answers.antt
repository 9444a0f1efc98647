use Rattle.std.proofs.Common.{ℕ, List, None, ap, subst, ◌∙◌}
use Rattle.std.specs.Prelude.{is_some}
use Rattle.rom_tree.specs.Tree.{Node}
use Rattle.rom_tree.specs.Image.{LieIn}
use Rattle.open_files.specs.Machine.{Open, readdir_on}
use Rattle.image_check.specs.Any.{any_view}
use Rattle.image_check.specs.Parts.{tree_of_parts}
use Rattle.rom_c.specs.Files.{MovesTo, parts_in}
use Rattle.rom_c.specs.Opened.{stands_at}
use Rattle.rom_c.specs.Outcomes.{IsListed, HasKindIn}
use Rattle.rom_c.proofs.Alone.{reported, in_tree, both, MovesTo-prop, IsListed-prop}
use Rattle.rom_c.proofs.Standing.{some_by, same, kept, nothing_lies}
use Rattle.rom_c.proofs.Moving.{file_moves}
use Rattle.rom_c.proofs.Listed.{HasKindIn-prop}
use Rattle.rom_c.proofs.files.romtool_readdir_v3.Goals as goal

pub readdir_in-error-requires : goal.readdir_in-error-requires
readdir_in-error-requires c =
    let f = c.args.file.now in
    let all = f.image.bytes.now in
    let n = parts_in f.image in
    let m = any_view c.image_of.result in
    let z = c.if-not-is_open.ensures.open in
    let o = some_by (stands_at all n f.node f.position) (f.stands z.0 z.1) in
    let e = same m all n c.node_of-opened.result f.node f.position c.image_of.ensures.cursors
    c.node_of-opened.ensures.node c.node_of-opened.ensures.position in
    (o.0, e ∙ (kept m all n f.node f.position c.image_of.ensures.tree ∙ o.1))

pub returns-clause-read : goal.returns-clause-read
returns-clause-read c = λ z t h.
    let f = c.args.file.now in
    let all = f.image.bytes.now in
    let n = parts_in f.image in
    let m = any_view c.image_of.result in
    let p = c.moved.result.position in
    let old = c.node_of-opened.result in
    let new = c.readdir_in-error.new.opened in
    let A : List ℕ → Open Node → Type 0 =
    λ b o. IsListed (readdir_on None o.place o.position) c.readdir_in-error.result c.readdir_in-error.new.entry in
    let K : List ℕ → Node → Open Node → Type 0 = λ b u o. A b o × MovesTo u f p (readdir_on None o.place o.position) in
    let s = ap is_some (kept m all n f.node f.position c.image_of.ensures.tree) ∙ f.stands z.0 z.1 in
    let e = same m all n old f.node f.position c.image_of.ensures.cursors c.node_of-opened.ensures.node
    c.node_of-opened.ensures.position in
    let moves = λ (o : Open Node). file_moves f m o old new p
    (readdir_on None o.place o.position) c.image_of.ensures.cursors
    (c.readdir_in-error.ensures.node ∙ c.node_of-opened.ensures.node) c.node_of-opened.ensures.position
    c.moved.ensures.position in
    in_tree K all m.bytes t (tree_of_parts all n) m.tree n f.node f.position c.one_tree.ensures
    (λ o. both (IsListed-prop (readdir_on None o.place o.position) c.readdir_in-error.result
    c.readdir_in-error.new.entry) (MovesTo-prop t f p (readdir_on None o.place o.position))) (f.image.tree z.0) h
    c.image_of.ensures.bytes c.image_of.ensures.tree s
    (λ o k. let r = c.readdir_in-error.ensures.read o (e ∙ k) in (r.0, moves o r.1))

pub returns-clause-lies : goal.returns-clause-lies
returns-clause-lies c =
    let P : List ℕ → Type 0 = λ b. LieIn b c.readdir_in-error.new.entry.name.now in
    subst P c.image_of.ensures.bytes c.readdir_in-error.ensures.lies

pub returns-then-not-is_open-clause-lies : goal.returns-then-not-is_open-clause-lies
returns-then-not-is_open-clause-lies c = nothing_lies _ _ c.no_entry.ensures.name

pub returns-clause-kind : goal.returns-clause-kind
returns-clause-kind c = λ z t h.
    let i = c.args.file.now.image in
    let m = any_view c.image_of.result in
    let K : List ℕ → Node → Type 0 = λ b u. HasKindIn u c.readdir_in-error.new.entry in
    reported K i.bytes.now m.bytes t (tree_of_parts i.bytes.now (parts_in i)) m.tree c.one_tree.ensures
    (HasKindIn-prop t c.readdir_in-error.new.entry) (i.tree z.0) h c.image_of.ensures.bytes c.image_of.ensures.tree
    c.readdir_in-error.ensures.kind
