-- An accepted image, of either format.
use Rattle.std.proofs.Common.{ℕ, ◌<◌, List, sym, subst}
use Rattle.std.specs.List.{All}
use Rattle.cramfs_format.specs.Superblock.{order_of}
use Rattle.image_check.specs.Checked.{Shows, romfs, cramfs}
use Rattle.rom_tree.specs.Image.{Image}
use Rattle.rom_tree.specs.declared.types.Limits.{Limits}
use Rattle.rom_tree.specs.declared.types.Report.{Report}
use Rattle.image_manifest.specs.Describable.{IsLawfulTree}
use Rattle.headline.proofs.OfCramfs.{cramfs_lawful}
use Rattle.headline.proofs.OfRomfs.{romfs_lawful}

pub lawful : (all : List ℕ) (limits : Limits) (m : Image) (report : Report) → All (λ b. b < 256) all
    → Shows all limits m report → IsLawfulTree m.tree
lawful all limits m report h (romfs s) = romfs_lawful all limits.references limits.depth m.tree h s.tree m.coherent
lawful all limits m report h (cramfs s) =
    cramfs_lawful (order_of all) all limits.references limits.depth m.tree h s.tree m.coherent

-- the bytes of the image are those that were checked
pub same_bytes : (all : List ℕ) (limits : Limits) (m : Image) (report : Report) → All (λ b. b < 256) all
    → Shows all limits m report → All (λ b. b < 256) m.bytes
same_bytes all limits m report h (romfs s) = subst (λ (v : List ℕ). All (λ b. b < 256) v) (sym s.bytes) h
same_bytes all limits m report h (cramfs s) = subst (λ (v : List ℕ). All (λ b. b < 256) v) (sym s.bytes) h
