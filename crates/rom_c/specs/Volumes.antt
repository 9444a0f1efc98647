-- `volume_reported`: where the name of an image's volume is. (Linux
-- Documentation/filesystems/romfs.rst: it is at 16, and a zero ends it.
-- include/uapi/linux/cramfs_fs.h: `name[16]`, at 48 of the superblock.)
use Rattle.std.specs.Prelude.{ℕ, ◌==◌, List, length, if◌then◌else◌}
use Rattle.image_info.specs.Volumes.{romfs_volume, cramfs_volume}
use Rattle.rom_c.specs.declared.answers.RomtoolPlace.{RomtoolPlace}

-- of an image of this format (1 is romfs, any other cramfs) with these bytes
abbrev pub volume_reported : ℕ → List ℕ → RomtoolPlace
volume_reported format b =
    if format == 1 then record { error = 0; at = 16; len = length (romfs_volume b) }
    else record { error = 0; at = 48; len = length (cramfs_volume b) }
