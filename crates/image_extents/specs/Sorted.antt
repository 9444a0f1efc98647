-- What the collected extents of an image are. (This project's own.)
use Rattle.std.specs.Prelude.{◌≡◌, ℕ, Bool, List, IsPermutation, map}
use Rattle.std.specs.List.Sorted.{IsNonDecreasingBy, IsStableByKey}
use Rattle.std.specs.Ordering.{nat_cmp}
use Rattle.romfs_format.specs.Superblock.{accessible as romfs_accessible}
use Rattle.romfs_format.specs.Tree.{root_of}
use Rattle.cramfs_format.specs.declared.order.Order.{Order}
use Rattle.cramfs_format.specs.Superblock.{accessible as cramfs_accessible}
use Rattle.romfs_image.specs.Reported.{image_of as romfs_image_of}
use Rattle.cramfs_image.specs.Reported.{image_of as cramfs_image_of, order_in}
use Rattle.image_check.specs.declared.any.AnyImage.{AnyImage}
use Rattle.image_check.specs.declared.any.AnyImage.TheVariants.{Romfs, Cramfs}
use Rattle.image_extents.specs.declared.extent.Extent.{Extent}
use Rattle.image_extents.specs.declared.extent.Extents.{Extents}
use Rattle.image_extents.specs.Apart.{AreApart}
use Rattle.image_extents.specs.Listed.{romfs_listed, cramfs_listed}
use Rattle.image_extents.specs.Found.{romfs_all_found, cramfs_all_found, cramfs_nexts}
use Rattle.image_extents.specs.Tables.{no_next}

abbrev pub start_of : Extent → ℕ
start_of x = x.start

-- ys are the extents xs in the order of offset; those of one offset are in the order of xs
pub record IsInOrder (xs ys : List Extent) : Type 0 where
  pub same : IsPermutation xs ys
  pub sorted : IsNonDecreasingBy start_of ys
  pub stable : IsStableByKey start_of nat_cmp xs ys

-- the records and the extents of the romfs image with the accessible bytes b and the root at r, of
-- which none share bytes; if two extents have a byte in common, they have the same range
pub record AreRomfs (b : List ℕ) (r : ℕ) (e : Extents) : Type 0 where
  pub bytes : e.bytes.now ≡ b
  pub records : e.records.items ≡ romfs_listed b r
  pub next : e.next.items ≡ map no_next (romfs_listed b r)
  pub extents : IsInOrder (romfs_all_found b r) e.extents.items
  pub apart : AreApart e.extents.items

-- the records and the extents of the cramfs image with the accessible bytes b; either blocks of a
-- file that follow one another are joined, or none are
pub record AreBlocks (joined : Bool) (o : Order) (b : List ℕ) (e : Extents) : Type 0 where
  pub bytes : e.bytes.now ≡ b
  pub records : e.records.items ≡ cramfs_listed o b
  pub next : e.next.items ≡ cramfs_nexts o b
  pub extents : IsInOrder (cramfs_all_found joined o b) e.extents.items

-- the same, and if two extents have a byte in common, they have the same range
pub record AreCramfs (o : Order) (b : List ℕ) (e : Extents) : Type 0 where
  pub joined : Bool
  pub blocks : AreBlocks joined o b e
  pub apart : AreApart e.extents.items

-- by the image's format
abbrev pub AreOf : AnyImage → Extents → Type 0
AreOf (Romfs s) e = AreRomfs (romfs_accessible (romfs_image_of s).bytes)
    (root_of (romfs_accessible (romfs_image_of s).bytes)) e
AreOf (Cramfs s) e =
    AreCramfs (order_in s) (cramfs_accessible (order_in s) (cramfs_image_of s).bytes) e
