-- `volume_of`: the name of an image's volume, by its format. (Linux
-- Documentation/filesystems/romfs.rst: it is at 16, and a zero ends it.
-- include/uapi/linux/cramfs_fs.h: `name[16]`, at 48 of the superblock.)
use Rattle.std.specs.Prelude.{ℕ, List, take, drop}
use Rattle.romfs_format.specs.Record.{before_zero}
use Rattle.romfs_image.specs.Reported.{image_of as romfs_image_of}
use Rattle.cramfs_image.specs.Reported.{image_of as cramfs_image_of}
use Rattle.image_check.specs.declared.any.AnyImage.{AnyImage}
use Rattle.image_check.specs.declared.any.AnyImage.TheVariants.{Romfs, Cramfs}

-- the bytes from 16 on before the first zero
abbrev pub romfs_volume : List ℕ → List ℕ
romfs_volume b = before_zero (drop 16 b)

-- the bytes of the field of 16 bytes at 48, before the first zero
unfoldable pub cramfs_volume : List ℕ → List ℕ
cramfs_volume b = before_zero (take 16 (drop 48 b))

-- the volume's name, by the image's format
abbrev pub volume_of : AnyImage → List ℕ
volume_of (Romfs s) = romfs_volume (romfs_image_of s).bytes
volume_of (Cramfs s) = cramfs_volume (cramfs_image_of s).bytes
