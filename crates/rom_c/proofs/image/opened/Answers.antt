use Rattle.std.proofs.Common.{sym, ap, ◌∙◌}
use Rattle.rom_tree.specs.Tree.{ino_of}
use Rattle.rom_tree.specs.declared.types.Report.{Report}
use Rattle.image_check.specs.Any.{any_view, report_of}
use Rattle.rom_c.proofs.Roots.{romfs_root, cramfs_root}
use Rattle.rom_c.proofs.image.opened.Goals as goal

pub opened_romfs-requires-clause-begins : goal.opened_romfs-requires-clause-begins
opened_romfs-requires-clause-begins c = c.in-Romfs.ensures.format c.args.bytes.now c.requires.format

pub returns-in-Romfs-clause-report : goal.returns-in-Romfs-clause-report
returns-in-Romfs-clause-report c =
    let found = c.args.found.now in
    let e = sym c.in-Romfs.ensures.report in (
      any_view found,
      report_of found,
      c.requires.shows,
      ap (λ (r : Report). r.references) e ∙ sym c.opened_romfs.ensures.references,
      ap (λ (r : Report). r.depth) e ∙ sym c.opened_romfs.ensures.depth,
    )

pub returns-in-Cramfs-clause-report : goal.returns-in-Cramfs-clause-report
returns-in-Cramfs-clause-report c =
    let found = c.args.found.now in
    let e = sym c.in-Cramfs.ensures.report in (
      any_view found,
      report_of found,
      c.requires.shows,
      ap (λ (r : Report). r.references) e ∙ sym c.opened_cramfs.ensures.references,
      ap (λ (r : Report). r.depth) e ∙ sym c.opened_cramfs.ensures.depth,
    )

pub returns-in-Romfs-clause-root : goal.returns-in-Romfs-clause-root
returns-in-Romfs-clause-root c =
    c.opened_romfs.ensures.root
    ∙ sym (ap ino_of c.in-Romfs.ensures.tree ∙ romfs_root (any_view c.args.found.now).bytes c.in-Romfs.parts)

pub returns-in-Cramfs-clause-root : goal.returns-in-Cramfs-clause-root
returns-in-Cramfs-clause-root c =
    c.opened_cramfs.ensures.root
    ∙ sym (ap ino_of c.in-Cramfs.ensures.tree ∙ cramfs_root (any_view c.args.found.now).bytes c.in-Cramfs.parts)
