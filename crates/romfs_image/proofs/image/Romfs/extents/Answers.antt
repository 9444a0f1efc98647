use Rattle.std.proofs.Common.{◌∙◌, ℕ, List, ap, subst}
use Rattle.rom_tree.specs.declared.types.Report.{Report}
use Rattle.romfs_format.specs.Tree.{IsSuperblock}
use Rattle.romfs_format.specs.Superblock.{HasImageFault}
use Rattle.romfs_image.proofs.Least.{super_faultless}
use Rattle.romfs_image.proofs.Refused.{forest_again, same_extents, ok_by}
use Rattle.romfs_image.proofs.Trees.{rows_sound}
use Rattle.romfs_image.proofs.image.Romfs.extents.Goals as goal

pub unreachable-requires : goal.unreachable-requires
unreachable-requires c = super_faultless c.requires.1.tree.super c.in_default.field-0
    (subst (λ (v : List ℕ). HasImageFault v c.in_default.field-0) c.bytes.ensures c.in_default.ensures.fault)

pub rows_again-requires : goal.rows_again-requires
rows_again-requires c = forest_again c.report.result.references c.requires.1
    (subst (λ (v : List ℕ). IsSuperblock v c.in-Ok.b.bytes.now c.in-Ok.b.root) c.bytes.ensures c.in-Ok.ensures.ok)
    (ap (λ (v : Report). v.references) c.report.ensures)

pub all_extents-requires : goal.all_extents-requires
all_extents-requires c =
    let w = c.in_ok-rows.ensures in
    rows_sound c.in-Ok.ensures.ok c.report.result.references w.0 c.deref.result.now (c.deref.ensures.value ∙ w.1) w.2

pub returns : goal.returns
returns c =
    let w = c.in_ok-rows.ensures in
    let super : IsSuperblock c.args.self.now.all.now c.in-Ok.b.bytes.now c.in-Ok.b.root =
    subst (λ (v : List ℕ). IsSuperblock v c.in-Ok.b.bytes.now c.in-Ok.b.root) c.bytes.ensures c.in-Ok.ensures.ok in
    ok_by c.all_extents.result
    (λ v e b r most deepest f other t. e
    ∙ same_extents super other c.deref.result.now most deepest c.report.result.references w.0 f
    (c.deref.ensures.value ∙ w.1) w.2 t) c.all_extents.ensures
