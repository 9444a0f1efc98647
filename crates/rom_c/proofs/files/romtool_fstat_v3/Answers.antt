use Rattle.std.proofs.Common.{◌≡◌, ℕ, List, None, ap, ◌∙◌}
use Rattle.std.proofs.Props.{props}
use Rattle.std.specs.Prelude.{is_some}
use Rattle.rom_tree.specs.Tree.{Node}
use Rattle.open_files.specs.Machine.{Open, fstat_on}
use Rattle.image_check.specs.Any.{any_view}
use Rattle.image_check.specs.Parts.{tree_of_parts}
use Rattle.rom_c.specs.Files.{parts_in}
use Rattle.rom_c.specs.Opened.{stands_at}
use Rattle.rom_c.specs.Outcomes.{file_stat_reported}
use Rattle.rom_c.proofs.Alone.{in_tree}
use Rattle.rom_c.proofs.Standing.{some_by, same, kept}
use Rattle.rom_c.proofs.files.romtool_fstat_v3.Goals as goal

pub fstat_in-requires : goal.fstat_in-requires
fstat_in-requires c =
    let f = c.args.file.now in
    let all = f.image.bytes.now in
    let n = parts_in f.image in
    let m = any_view c.image_of.result in
    let z = c.if-not-is_open.ensures.open in
    let o = some_by (stands_at all n f.node f.position) (f.stands z.0 z.1) in
    let e = same m all n c.node_of.result f.node f.position c.image_of.ensures.cursors c.node_of.ensures.node
    c.node_of.ensures.position in
    (o.0, e ∙ (kept m all n f.node f.position c.image_of.ensures.tree ∙ o.1))

pub returns-clause-shows : goal.returns-clause-shows
returns-clause-shows c = λ z t h.
    let f = c.args.file.now in
    let all = f.image.bytes.now in
    let n = parts_in f.image in
    let m = any_view c.image_of.result in
    let K : List ℕ → Node → Open Node → Type 0 =
    λ b u o. c.fstat_in.result ≡ file_stat_reported (fstat_on None o.place o.position) in
    let s = ap is_some (kept m all n f.node f.position c.image_of.ensures.tree) ∙ f.stands z.0 z.1 in
    let e = same m all n c.node_of.result f.node f.position c.image_of.ensures.cursors c.node_of.ensures.node
    c.node_of.ensures.position in
    in_tree K all m.bytes t (tree_of_parts all n) m.tree n f.node f.position c.one_tree.ensures (λ o. Prim.hlevel props)
    (f.image.tree z.0) h
    c.image_of.ensures.bytes c.image_of.ensures.tree s (λ o k. c.fstat_in.ensures o (e ∙ k))

pub returns-then-not-is_open-clause-closed : goal.returns-then-not-is_open-clause-closed
returns-then-not-is_open-clause-closed c = λ z. c.no_stat.ensures
