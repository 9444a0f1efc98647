-- The volume's name that is printed of an image that was built is the manifest's.
use Rattle.std.proofs.Common.{◌≡◌, ℕ, List, drop, take, ap, ◌∙◌}
use Rattle.cramfs_format.specs.Superblock.{order_of}
use Rattle.romfs_format.specs.Record.{before_zero}
use Rattle.rom_tree.specs.Image.{Image}
use Rattle.rom_tree.specs.Tree.{Node}
use Rattle.rom_tree.specs.declared.types.Limits.{Limits}
use Rattle.rom_tree.specs.declared.types.Report.{Report}
use Rattle.image_check.specs.Any.{any_view, report_of}
use Rattle.image_check.specs.Checked.{HasFormat, Shows, romfs as shows_romfs, cramfs as shows_cramfs}
use Rattle.image_check.specs.declared.any.AnyImage.{AnyImage}
use Rattle.image_check.specs.declared.any.AnyImage.TheVariants.{Romfs, Cramfs}
use Rattle.image_check.proofs.Formats.{apart, cramfs_begins, romfs_begins}
use Rattle.image_info.specs.Volumes.{cramfs_volume, volume_of}
use Rattle.formats.specs.Format.{Format, romfs, cramfs}
use Rattle.manifest_layout.specs.Format.{HasUsualTree}
use Rattle.manifest_layout.specs.Placement.{HasVolume}

shown_bytes : (bytes : List ℕ) (limits : Limits) (m : Image) (report : Report) → Shows bytes limits m report
    → m.bytes ≡ bytes
shown_bytes bytes limits m report (shows_romfs h) = h.bytes
shown_bytes bytes limits m report (shows_cramfs h) = h.bytes

pub volume_by : (f : Format) (bytes name : List ℕ) (limits : Limits) (t : Node) (v : AnyImage) → HasUsualTree f bytes t
    → HasVolume f bytes name
    → Shows bytes limits (any_view v) (report_of v) → HasFormat bytes v → volume_of v ≡ name
unfolding cramfs_volume
volume_by romfs bytes name limits t (Romfs s) tree named shows format =
    ap (λ b. before_zero (drop 16 b)) (shown_bytes bytes limits (any_view (Romfs s)) (report_of (Romfs s)) shows)
    ∙ named
volume_by romfs bytes name limits t (Cramfs s) tree named shows format =
    absurd (apart (order_of bytes) bytes (romfs_begins tree) format.0.1)
volume_by (cramfs o) bytes name limits t (Romfs s) tree named shows format =
    absurd (apart (order_of bytes) bytes format (cramfs_begins tree).1)
volume_by (cramfs o) bytes name limits t (Cramfs s) tree named shows format =
    ap (λ b. before_zero (take 16 (drop 48 b)))
    (shown_bytes bytes limits (any_view (Cramfs s)) (report_of (Cramfs s)) shows) ∙ named
