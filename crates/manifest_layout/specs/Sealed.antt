-- `HasSeal`: what the superblock of an image states is true of the image, in each format. (This
-- project's own.)
use Rattle.std.specs.Prelude.{ℕ, List}
use Rattle.formats.specs.Format.{Format, romfs, cramfs}
use Rattle.romfs_layout.specs.Sealed as of_romfs
use Rattle.cramfs_layout.specs.Sealed as of_cramfs

abbrev pub HasSeal : Format → List ℕ → Type 0
HasSeal romfs bytes = of_romfs.IsSealed bytes
HasSeal (cramfs o) bytes = of_cramfs.IsSealed o bytes
