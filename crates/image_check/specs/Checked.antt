-- `HasTree`: a tree that one of the formats defines for the bytes. `Shows`: an image value shows
-- this tree. `IsRefused`: the meaning of a refusal: neither format defines a tree. `HasFormat`: the
-- value is of the format that the first bytes name, and in their byte order. `neither`: the answer
-- to bytes of no format. `IsFaultless`: the bytes have no fault of the format with which they
-- begin. `IsLeastFaultUnder`: this is their least fault. (This project's own.)
use Rattle.std.specs.Prelude.{◌≡◌, ℕ, ◌⊎◌, List, length, if◌then◌else◌, nat_lt}
use Rattle.formats.specs.Begins.{BeginsRomfs, BeginsCramfs}
use Rattle.rom_tree.specs.Tree.{Node}
use Rattle.rom_tree.specs.Image.{Image}
use Rattle.rom_tree.specs.declared.types.Limits.{Limits}
use Rattle.rom_tree.specs.declared.types.Report.{Report}
use Rattle.rom_fields.specs.declared.check_error.CheckError.{CheckError}
use Rattle.rom_fields.specs.declared.check_error.CheckError.TheVariants.{Fault}
use Rattle.rom_tree.specs.Checks.{Refuses}
use Rattle.romfs_format.specs.Tree.{RomfsTree}
use Rattle.romfs_format.specs.Faults.{HasNoFault as HasNoRomfsFault}
use Rattle.romfs_image.specs.Checked.{Shows as RomfsShows, IsLeastAnswer as IsLeastRomfsAnswer}
use Rattle.cramfs_format.specs.declared.order.Order.{Order}
use Rattle.cramfs_format.specs.Superblock.{order_of}
use Rattle.cramfs_format.specs.Tree.{CramfsTree}
use Rattle.cramfs_format.specs.Faults.{HasNoFault as HasNoCramfsFault}
use Rattle.cramfs_image.specs.Checked.{Shows as CramfsShows, IsLeastAnswer as IsLeastCramfsAnswer}
use Rattle.cramfs_image.specs.Reported.{order_in}
use Rattle.image_check.specs.declared.any.AnyImage.{AnyImage}
use Rattle.image_check.specs.declared.any.AnyImage.TheVariants.{Romfs, Cramfs}

-- t is the tree that one of the formats defines for these bytes, under these limits
abbrev pub HasTree : List ℕ → Limits → Node → Type 0
HasTree all limits t =
    RomfsTree all limits.references limits.depth t
    ⊎ ((o : Order) × CramfsTree o all limits.references limits.depth t)

-- The image m shows the tree that one of the formats defines for these bytes.
pub data Shows (all : List ℕ) (limits : Limits) (m : Image) (report : Report) : Type 0 where
  romfs : RomfsShows all limits m report → Shows all limits m report
  cramfs : CramfsShows (order_of all) all limits m report → Shows all limits m report

-- a fault is answered only if the bytes hold no tree of either format
abbrev pub IsRefused : List ℕ → Limits → CheckError → Type 0
IsRefused all limits = Refuses (HasTree all limits)

-- bytes of no format: 2 Short if they are fewer than 8, otherwise 3 Magic, at 0
abbrev pub neither : List ℕ → CheckError
neither all = Fault (if nat_lt (length all) 8 then 2 else 3) 0

-- the image is of the format that the first bytes name, and in their byte order
abbrev pub HasFormat : List ℕ → AnyImage → Type 0
HasFormat all (Romfs s) = BeginsRomfs all
HasFormat all (Cramfs s) = BeginsCramfs all × (order_in s ≡ order_of all)

-- The bytes begin as an image of one of the formats, and have none of its faults.
pub data IsFaultless (all : List ℕ) (limits : Limits) : Type 0 where
  no_romfs_fault : BeginsRomfs all → HasNoRomfsFault all limits.references limits.depth
      → IsFaultless all limits
  no_cramfs_fault : BeginsCramfs all
      → HasNoCramfsFault (order_of all) all limits.references limits.depth
      → IsFaultless all limits

-- The fault is the least of the format that the first bytes name. If they name none, it is that of
-- bytes of no format.
pub data IsLeastFaultUnder (all : List ℕ) (limits : Limits) (e : CheckError) : Type 0 where
  least_of_romfs : BeginsRomfs all → IsLeastRomfsAnswer all limits e
      → IsLeastFaultUnder all limits e
  least_of_cramfs : BeginsCramfs all → IsLeastCramfsAnswer (order_of all) all limits e
      → IsLeastFaultUnder all limits e
  of_neither : (BeginsRomfs all → ⊥) → (BeginsCramfs all → ⊥) → e ≡ neither all
      → IsLeastFaultUnder all limits e
