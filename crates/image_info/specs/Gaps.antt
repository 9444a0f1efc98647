-- `gaps_of`: the number of accessible bytes of a valid image that nothing uses: they are in none of
-- its extents. `romfs_extents`, `cramfs_extents`: the extents of an image as a function of its
-- bytes, the same that a check tests for overlaps. `IsChecked`: a check returned the image. (This
-- project's own.)
use Rattle.std.specs.Prelude.{ℕ, ◌^◌, List, length}
use Rattle.rom_fields.specs.declared.span.Span.{Span}
use Rattle.rom_tree.specs.declared.types.Limits.{Limits}
use Rattle.record_forest.specs.Forest.{Forest, none, at, all_rows}
use Rattle.romfs_format.specs.Refers.{references as romfs_references, list_of, following}
use Rattle.romfs_format.specs.Made.{grow as romfs_grow}
use Rattle.romfs_format.specs.Superblock.{accessible as romfs_accessible}
use Rattle.romfs_format.specs.Tree.{extents_of as extents_of_romfs, root_of}
use Rattle.cramfs_format.specs.declared.order.Order.{Order}
use Rattle.cramfs_format.specs.Inode.{list_start, list_end}
use Rattle.cramfs_format.specs.Refers.{references as cramfs_references, root_place}
use Rattle.cramfs_format.specs.Made.{grow as cramfs_grow}
use Rattle.cramfs_format.specs.Superblock.{accessible as cramfs_accessible}
use Rattle.cramfs_format.specs.Tree.{extents_of as extents_of_cramfs}
use Rattle.romfs_image.specs.Reported.{image_of as romfs_image_of}
use Rattle.cramfs_image.specs.Reported.{image_of as cramfs_image_of, order_in}
use Rattle.image_check.specs.Any.{any_view, report_of}
use Rattle.image_check.specs.Checked.{Shows, HasFormat}
use Rattle.image_check.specs.declared.any.AnyImage.{AnyImage}
use Rattle.image_check.specs.declared.any.AnyImage.TheVariants.{Romfs, Cramfs}
use Rattle.image_info.specs.Unused.{unused}

-- no image has more records
unfoldable pub most_records : ℕ
most_records = 2 ^ 32

-- the records of a romfs image whose root is at r: the root, its list, and the records after it if
-- it is the first of its own list
unfoldable pub romfs_forest : List ℕ → ℕ → Forest
romfs_forest b r =
    at r (romfs_grow most_records b (list_of b r r)) (romfs_grow most_records b (following b r r))

-- their extents and that of the superblock
unfoldable pub romfs_extents : List ℕ → ℕ → List Span
romfs_extents b r = extents_of_romfs b r (all_rows (romfs_references b r) (romfs_forest b r))

-- the number of accessible bytes of a romfs image that nothing uses
unfoldable pub romfs_gaps : List ℕ → ℕ
romfs_gaps all =
    unused (romfs_extents (romfs_accessible all) (root_of (romfs_accessible all))) 0
    (length (romfs_accessible all))

-- the records of a cramfs image: the root and its list
unfoldable pub cramfs_forest : Order → List ℕ → Forest
cramfs_forest o b =
    at root_place (cramfs_grow most_records o b (list_end o b root_place)
    (list_start o b root_place)) none

-- their extents and that of the superblock
unfoldable pub cramfs_extents : Order → List ℕ → List Span
cramfs_extents o b = extents_of_cramfs o b (all_rows (cramfs_references o b) (cramfs_forest o b))

-- the number of accessible bytes of a cramfs image that nothing uses
unfoldable pub cramfs_gaps : Order → List ℕ → ℕ
cramfs_gaps o all =
    unused (cramfs_extents o (cramfs_accessible o all)) 0 (length (cramfs_accessible o all))

-- by the image's format
abbrev pub gaps_of : AnyImage → ℕ
gaps_of (Romfs s) = romfs_gaps (romfs_image_of s).bytes
gaps_of (Cramfs s) = cramfs_gaps (order_in s) (cramfs_image_of s).bytes

-- a check of its bytes returned this image
pub record IsChecked (a : AnyImage) : Type 0 where
  pub limits : Limits
  pub shows : Shows (any_view a).bytes limits (any_view a) (report_of a)
  pub format : HasFormat (any_view a).bytes a
