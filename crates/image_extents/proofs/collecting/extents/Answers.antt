use Rattle.std.proofs.Common.{◌∙◌, ℕ, List, sym, ap, subst, arith}
use Rattle.rom_tree.specs.Tree.{ino_of}
use Rattle.romfs_format.proofs.Trees.{made_ino}
use Rattle.cramfs_format.specs.declared.order.Order.{Order}
use Rattle.image_info.specs.Gaps.{IsChecked}
use Rattle.image_info.specs.Held.{HoldsRomfs, HoldsCramfs}
use Rattle.std.specs.Prelude.{IfOk}
use Rattle.romfs_format.specs.Superblock.{accessible as romfs_accessible}
use Rattle.image_check.specs.declared.any.AnyImage.{AnyImage}
use Rattle.image_extents.specs.Sorted.{AreRomfs, AreOf}
use Rattle.image_info.proofs.Given.{checked_romfs, checked_cramfs}
use Rattle.image_extents.proofs.collecting.extents.Goals as goal

pub romfs_extents-requires : goal.romfs_extents-requires
romfs_extents-requires c =
    let s = c.in-Romfs.image in
    let f = c.parts.type_inv in
    let n = c.parts.ensures.references in
    let root = sym (ap ino_of c.parts.ensures.tree ∙ made_ino _ _ _ c.parts.result.root) in
    subst (λ (v : List ℕ). HoldsRomfs v c.parts.result.root) (sym c.bytes.ensures)
    (checked_romfs s c.parts.result.root (subst IsChecked c.in-Romfs.is c.requires) (omega (arith, f, n)) root)

pub joined_extents-requires : goal.joined_extents-requires
joined_extents-requires c =
    let s = c.in-Cramfs.image in
    let f = c.parts-in-Cramfs.type_inv in
    let n = c.parts-in-Cramfs.ensures.references in
    subst (λ (v : List ℕ). HoldsCramfs c.parts-in-Cramfs.result.order v) (sym c.bytes-in-Cramfs.ensures)
    (subst (λ (v : Order). HoldsCramfs v s.all.now) (sym c.parts-in-Cramfs.ensures.order)
    (checked_cramfs s (subst IsChecked c.in-Cramfs.is c.requires) (omega (arith, f, n))))

pub returns-in-Romfs : goal.returns-in-Romfs
returns-in-Romfs c =
    let s = c.in-Romfs.image in
    let f = c.parts.type_inv in
    let n = c.parts.ensures.references in
    let root = sym (ap ino_of c.parts.ensures.tree ∙ made_ino _ _ _ c.parts.result.root) in
    let h = checked_romfs s c.parts.result.root (subst IsChecked c.in-Romfs.is c.requires) (omega (arith, f, n)) root in
    let A : List ℕ → Type 0 = λ v. IfOk c.romfs_extents.result (AreRomfs (romfs_accessible v) c.parts.result.root) in
    let B : ℕ → Type 0 = λ r. IfOk c.romfs_extents.result (AreRomfs (romfs_accessible s.all.now) r) in
    let C : AnyImage → Type 0 = λ a. IfOk c.romfs_extents.result (AreOf a) in
    subst C (sym c.in-Romfs.is) (subst B h.superblock.root (subst A c.bytes.ensures c.romfs_extents.ensures))
