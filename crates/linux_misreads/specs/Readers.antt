-- How Linux 6.1 reads a record, in the cases in which it does not keep to the format. Each
-- definition restates a few lines of the function that it names: `romfs_device`, `cramfs_device`,
-- `listed_len`, `romfs_finds`, `romfs_root`, `romfs_data`, `file_number`, `cramfs_finds`,
-- `page_filled`, `root_mode`, `read_link`. (Linux include/linux/kdev_t.h, fs/romfs,
-- fs/cramfs/inode.c and fs/namei.c.)
use Rattle.std.specs.Prelude.{ℕ, ◌+◌, ◌*◌, ◌/◌, ◌%◌, ◌^◌, ◌&&◌, ◌||◌, ◌==◌, nat_lt, not, min}
use Rattle.std.specs.Prelude.{bit_or, Bool, if◌then◌else◌, List, length, drop}
use Rattle.rom_fields.specs.Words.{word_be}
use Rattle.romfs_format.specs.Record.{before_zero}
use Rattle.cramfs_format.specs.Inode.{block_count, offset_of, size_of, type_of}
use Rattle.cramfs_format.specs.declared.order.Order.{Order}

-- include/linux/kdev_t.h, `MKDEV`: the number of a device has 32 bits, and the lower 20 are for the
-- minor number
abbrev pub device_number : ℕ → ℕ → ℕ
device_number major minor = (major * 2 ^ 20 + minor) % 2 ^ 32

-- include/linux/kdev_t.h, `MAJOR` and `MINOR`: the number of a device has these two
abbrev pub names_device : ℕ → ℕ → ℕ → Bool
names_device number major minor = (number / 2 ^ 20 == major) && (number % 2 ^ 20 == minor)

-- fs/romfs/super.c, `romfs_iget`: of the spec, `MKDEV(nextfh >> 16, nextfh & 0xffff)`
abbrev pub romfs_device : List ℕ → ℕ → ℕ
romfs_device b p = device_number (word_be b (p + 4) / 2 ^ 16) (word_be b (p + 4) % 2 ^ 16)

-- include/linux/kdev_t.h, `old_decode_dev`: of 16 bits, the upper eight and the lower eight
abbrev pub old_device : ℕ → ℕ
old_device bits = device_number (bits % 2 ^ 16 / 2 ^ 8) (bits % 2 ^ 8)

-- fs/cramfs/inode.c, `get_cramfs_inode`: `old_decode_dev(cramfs_inode->size)`, of the size of the
-- inode at p
abbrev pub cramfs_device : Order → List ℕ → ℕ → ℕ
cramfs_device o b p = old_device (size_of o b p)

-- fs/romfs/super.c, `romfs_readdir`: the number of bytes of a name that are listed, at most
-- `sizeof(fsname) - 1`
abbrev pub listed_len : List ℕ → ℕ
listed_len name = min (length name) 127

-- fs/romfs/storage.c, `romfs_dev_strcmp`: a name of more than `ROMFS_MAXFN` bytes is not looked for
abbrev pub romfs_finds : List ℕ → Bool
romfs_finds name = not (nat_lt 128 (length name))

-- fs/romfs/super.c, `romfs_fill_super`: the root is read behind at most `ROMFS_MAXFN` bytes of the
-- volume's name
abbrev pub romfs_root : List ℕ → ℕ
romfs_root volume = (16 + min (length volume) 128 + 1 + 15) / 16 * 16

-- fs/romfs/super.c, `romfs_iget`: the offset at which the data of the record at p begin;
-- `romfs_dev_strnlen` counts up to `ROMFS_MAXFN` bytes of its name
abbrev pub romfs_data : List ℕ → ℕ → ℕ
romfs_data b p = p + (16 + min (length (before_zero (drop (p + 16) b))) 128 + 1 + 15) / 16 * 16

-- fs/cramfs/inode.c, `cramino`: the number of the file whose inode is at p: the offset of its data
-- if it has any, otherwise one more than p
abbrev pub file_number : Order → List ℕ → ℕ → ℕ
file_number o b p =
    if (offset_of o b p == 0) || (size_of o b p == 0) then p + 1
    else (if (type_of o b p == 8) || ((type_of o b p == 4) || (type_of o b p == 10))
    then offset_of o b p else p + 1)

-- fs/cramfs/inode.c, `cramfs_lookup`: a record is skipped if its name does not have exactly the
-- padding that it needs, `((dentry->d_name.len + 3) & ~3) != namelen`
abbrev pub cramfs_finds : List ℕ → ℕ → Bool
cramfs_finds name room = (length name + 3) / 4 * 4 == room

-- fs/cramfs/inode.c, `cramfs_read_folio`: the number of bytes that are read of the i-th page of a
-- file of `size` bytes; the rest of the page is zeros; the last page, `maxblock - 1`, has
-- `offset_in_page(inode->i_size)`
abbrev pub page_filled : ℕ → ℕ → ℕ
page_filled size i = if i + 1 == block_count size then size % 4096 else 4096

-- fs/cramfs/inode.c, `cramfs_read_super`: of the root, `super->root.mode |= 0555`
abbrev pub root_mode : ℕ → ℕ
root_mode mode = bit_or mode 365

-- fs/namei.c, `readlink_copy`: a link's text ends before its first zero
abbrev pub read_link : List ℕ → List ℕ
read_link text = before_zero text
