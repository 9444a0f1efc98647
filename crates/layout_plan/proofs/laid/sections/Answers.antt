use Rattle.std.proofs.Common.{◌≡◌, ◌<◌, map, length, IfOk, sym, ap, subst, arith}
use Rattle.std.specs.List.{AllByRecursion as Every}
use Rattle.cramfs_layout.specs.Items as cramfs_items
use Rattle.manifest_tree.specs.Items.{Item, SectionsRise}
use Rattle.manifest_layout.specs.Views.{item_view, section_view}
use Rattle.formats.specs.Format.{cramfs}
use Rattle.manifest_layout.specs.Format.{len_of, items_of, sections_of}
use Rattle.manifest_layout.specs.Misfit.{HasNoMisfit}
use Rattle.manifest_layout.proofs.Sectioned.{rise}
use Rattle.formats.specs.Format.{format_of}
use Rattle.layout_plan.proofs.Readying.{volume_short, names_short, in_cramfs}
use Rattle.layout_plan.proofs.laid.sections.Goals as goal

pub sections-requires-clause-volume : goal.sections-requires-clause-volume
sections-requires-clause-volume c =
    let r = c.requires in
    let s = volume_short (format_of c.args.format) r.0 r.1 r.2 r.3.lines in
    let e = ap length r.4 in
    omega (arith, s, e)

pub sections-requires-clause-names : goal.sections-requires-clause-names
sections-requires-clause-names c =
    let r = c.requires in
    subst (Every (λ (i : Item). length i.name < 256)) (sym r.5) (names_short (format_of c.args.format) r.0 r.1 r.2 r.3)

pub sections-requires-in-Cramfs : goal.sections-requires-in-Cramfs
sections-requires-in-Cramfs c =
    let r = c.requires in
    subst (Every (λ (i : Item). length i.name < 256)) (sym r.5) (names_short (format_of c.args.format) r.0 r.1 r.2 r.3)

pub returns-in-Cramfs : goal.returns-in-Cramfs
returns-in-Cramfs c = λ m sizes h n v e.
    let is = map item_view c.args.items.now in
    in_cramfs
    (λ f. HasNoMisfit f m sizes → is ≡ items_of f m sizes
    → IfOk c.sections-in-Cramfs.result (λ found. map section_view found.items ≡ sections_of f m sizes))
    c.args.format c.in-Cramfs.is
    (λ o fit are.
    let up = subst (λ js. SectionsRise 0 (len_of (cramfs o) m sizes) (cramfs_items.sections_of js)) (sym are)
    (rise (cramfs o) m sizes h fit) in
    subst (λ js. IfOk c.sections-in-Cramfs.result
    (λ found. map section_view found.items ≡ cramfs_items.sections_of js)) are
    (c.sections-in-Cramfs.ensures (len_of (cramfs o) m sizes) up))
    n e
