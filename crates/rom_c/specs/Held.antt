-- `parts_of`: the numbers that C holds of an image. `IsFormat`: the number of the format that the
-- first bytes name. `IsReported`: references and depth are those of the bytes' tree. `usual`: the
-- limits of each check. (This project's own.)
use Rattle.std.specs.Prelude.{◌≡◌, ℕ, ◌==◌, List, if◌then◌else◌}
use Rattle.rom_tree.specs.Image.{Image}
use Rattle.rom_tree.specs.declared.types.Limits.{Limits}
use Rattle.rom_tree.specs.declared.types.Report.{Report}
use Rattle.romfs_image.specs.declared.image.Parts.{Parts as RomfsParts}
use Rattle.cramfs_format.specs.declared.order.Order.{Order}
use Rattle.cramfs_format.specs.declared.order.Order.TheVariants.{Little, Big}
use Rattle.cramfs_format.specs.Superblock.{order_of}
use Rattle.cramfs_image.specs.declared.image.Parts.{Parts as CramfsParts}
use Rattle.formats.specs.Begins.{BeginsRomfs, BeginsCramfs}
use Rattle.image_check.specs.Checked.{Shows}
use Rattle.image_check.specs.declared.any.Parts.{Parts}
use Rattle.image_check.specs.declared.any.Parts.TheVariants.{Romfs, Cramfs}

-- the limits of each check
abbrev pub usual : Limits
usual = record { references = 1048576; depth = 64 }

-- The numbers as they are in C. Format 1 is romfs, 2 cramfs, and 3 big-endian cramfs.

abbrev pub romfs_parts : ℕ → ℕ → ℕ → ℕ → RomfsParts
romfs_parts accessible root references depth =
    record { accessible = accessible; root = root; references = references; depth = depth }

abbrev pub order_by : ℕ → Order
order_by format = if format == 3 then Big else Little

abbrev pub cramfs_parts : ℕ → ℕ → ℕ → ℕ → CramfsParts
cramfs_parts format accessible references depth =
    record {
      order = order_by format;
      accessible = accessible;
      references = references;
      depth = depth;
    }

abbrev pub parts_of : ℕ → ℕ → ℕ → ℕ → ℕ → Parts
parts_of format accessible root references depth =
    if format == 1 then Romfs (romfs_parts accessible root references depth)
    else Cramfs (cramfs_parts format accessible references depth)

-- the format that the first bytes name
pub data IsFormat (all : List ℕ) (format : ℕ) : Type 0 where
  romfs : BeginsRomfs all → format ≡ 1 → IsFormat all format
  cramfs : BeginsCramfs all → order_of all ≡ Little → format ≡ 2 → IsFormat all format
  cramfs_big : BeginsCramfs all → order_of all ≡ Big → format ≡ 3 → IsFormat all format

-- the number of references and the depth of the tree that these bytes have
abbrev pub IsReported : List ℕ → ℕ → ℕ → Type 0
IsReported all references depth =
    (m : Image) × (r : Report) × Shows all usual m r × (r.references ≡ references)
    × (r.depth ≡ depth)
