-- `BeginsRomfs`, `BeginsCramfs`: the bytes begin as romfs, or as cramfs in a byte order. `Begins`:
-- they begin as an image of this format. (Linux Documentation/filesystems/romfs.rst and
-- include/uapi/linux/cramfs_fs.h.)
use Rattle.std.specs.Prelude.{◌≡◌, ℕ, ◌≤◌, List, length, take}
use Rattle.romfs_format.specs.Tree.{magic as romfs_magic}
use Rattle.cramfs_format.specs.Order.{word}
use Rattle.cramfs_format.specs.Superblock.{magic as cramfs_magic, order_of}
use Rattle.formats.specs.Format.{Format, romfs, cramfs}

-- the bytes begin with `-rom1fs-`
abbrev pub BeginsRomfs : List ℕ → Type 0
BeginsRomfs all = take 8 all ≡ romfs_magic

-- the first word is 28cd3d45 (hexadecimal), in one of the byte orders
abbrev pub BeginsCramfs : List ℕ → Type 0
BeginsCramfs all = (4 ≤ length all) × (word (order_of all) all 0 ≡ cramfs_magic)

-- the bytes begin as an image of this format
abbrev pub Begins : Format → List ℕ → Type 0
Begins romfs all = BeginsRomfs all
Begins (cramfs o) all = BeginsCramfs all × (o ≡ order_of all)
