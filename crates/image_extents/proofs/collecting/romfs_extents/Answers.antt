use Rattle.std.proofs.Common.{◌≢◌, ◌∙◌, ℕ, List, take, ap, subst, arith, map}
use Rattle.romfs_format.specs.Superblock.{accessible}
use Rattle.romfs_image.proofs.Reading.{root_above}
use Rattle.image_info.proofs.Given.{romfs_known}
use Rattle.image_extents.specs.declared.extent.Extent.{Extent}
use Rattle.image_extents.specs.declared.extent.Record.{Record}
use Rattle.image_extents.specs.Tables.{no_next}
use Rattle.image_extents.specs.Listed.{romfs_listed}
use Rattle.image_extents.specs.Found.{romfs_all_found}
use Rattle.image_extents.specs.Sorted.{IsInOrder}
use Rattle.image_extents.proofs.Apart.{romfs_apart}
use Rattle.image_extents.proofs.collecting.romfs_extents.Goals as goal

pub add_romfs-requires-clause-romfs : goal.add_romfs-requires-clause-romfs
add_romfs-requires-clause-romfs c =
    romfs_known c.args.all.now c.args.root c.stated_size.result c.requires c.stated_size.type_inv c.stated_size.ensures

pub returns : goal.returns
returns c =
    let all : List ℕ = c.args.all.now in
    let root : ℕ = c.args.root in
    let xs : List Extent = c.sort.new.extents.items in
    let found = c.in_ok-add_romfs.ensures.extents
    ∙ ap (λ (n : ℕ). romfs_all_found (take n all) root) c.stated_size.ensures in
    let order : IsInOrder (romfs_all_found (accessible all) root) xs =
    subst (λ (v : List Extent). IsInOrder v xs) found c.in_ok-sort.ensures in
    let above = root_above (accessible all) root c.requires.superblock.root in
    let live : root ≢ 0 = λ z. absurd (omega (arith, above, z)) in
    record {
      bytes = ap (λ (n : ℕ). take n all) c.stated_size.ensures;
      records = c.in_ok-add_romfs.ensures.records
          ∙ ap (λ (n : ℕ). romfs_listed (take n all) root) c.stated_size.ensures;
      next = c.in_ok-next.ensures
          ∙ ap (λ (v : List Record). map no_next v) (c.deref.ensures.value ∙ c.in_ok-add_romfs.ensures.records
          ∙ ap (λ (n : ℕ). romfs_listed (take n all) root) c.stated_size.ensures);
      extents = order;
      apart = romfs_apart (accessible all) root c.requires.most c.requires.deepest c.requires.forest xs live
          c.requires.whole c.requires.few order;
    }
