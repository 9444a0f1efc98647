-- `any_view`: a checked image of either format as an `Image`. `report_of`: its report.
-- `image_format`: its format. `size_of`: the number of its accessible bytes. `GivesPart`: the
-- length of a run, by format. (This project's own.)
use Rattle.std.specs.Prelude.{ℕ, List, Option}
use Rattle.rom_tree.specs.declared.types.Run.{Run}
use Rattle.rom_tree.specs.Image.{Image}
use Rattle.rom_tree.specs.declared.types.Report.{Report}
use Rattle.romfs_image.specs.Romfs.{GivesRest}
use Rattle.romfs_image.specs.Reported.{image_of as romfs_image_of, report_of as romfs_report}
use Rattle.cramfs_image.specs.Cramfs.{GivesBlock}
use Rattle.cramfs_image.specs.Reported.{image_of as cramfs_image_of, report_of as cramfs_report}
use Rattle.romfs_format.specs.Tree.{full_size}
use Rattle.cramfs_format.specs.Superblock.{accessible_size}
use Rattle.cramfs_image.specs.Reported.{order_in}
use Rattle.formats.specs.Format.{cramfs_in}
use Rattle.formats.specs.declared.format.Format as format
use Rattle.formats.specs.declared.format.Format.TheVariants as formats
use Rattle.image_check.specs.declared.any.AnyImage.{AnyImage}
use Rattle.image_check.specs.declared.any.AnyImage.TheVariants.{Romfs, Cramfs}

abbrev pub any_view : AnyImage → Image
any_view (Romfs s) = romfs_image_of s
any_view (Cramfs s) = cramfs_image_of s

-- the number of its references, and its depth
abbrev pub report_of : AnyImage → Report
report_of (Romfs s) = romfs_report s
report_of (Cramfs s) = cramfs_report s

-- its format
abbrev pub image_format : AnyImage → format.Format
image_format (Romfs s) = formats.Romfs
image_format (Cramfs s) = cramfs_in (order_in s)

-- the number of its accessible bytes: the size that the superblock states; or, of a cramfs image
-- that states none, the number of all bytes, up to 2^28
abbrev pub size_of : AnyImage → ℕ
size_of (Romfs s) = full_size (romfs_image_of s).bytes
size_of (Cramfs s) = accessible_size (order_in s) (cramfs_image_of s).bytes

-- the length of a run: in romfs the rest of the file, in cramfs the rest of its block
abbrev pub GivesPart : AnyImage → List ℕ → ℕ → Option Run → Type 0
GivesPart (Romfs s) = GivesRest
GivesPart (Cramfs s) = GivesBlock
