-- `IsSealed`: a cramfs image states its length, its flags, its crc, the number of its blocks, and
-- the number of its files. (Linux include/uapi/linux/cramfs_fs.h, and mkcramfs, which counts each
-- name and the root as a file. That all bytes are counted as blocks is this project's own.)
use Rattle.std.specs.Prelude.{◌≡◌, ℕ, ◌+◌, ◌*◌, List, length}
use Rattle.rom_tree.specs.Tree.{Node, nodes}
use Rattle.crc.specs.Crc.{crc_of}
use Rattle.cramfs_format.specs.Order.{word}
use Rattle.cramfs_format.specs.declared.order.Order.{Order}
use Rattle.cramfs_format.specs.Superblock.{size_word, flags_of, without_crc}
use Rattle.cramfs_format.specs.Tree.{CramfsTree}

-- CRAMFS_FLAG_..: the crc and the numbers of blocks and files are stored, lists are sorted, and
-- pointers have bits for the kind of their blocks
abbrev pub FSID_VERSION_2 : ℕ
FSID_VERSION_2 = 1

abbrev pub SORTED_DIRS : ℕ
SORTED_DIRS = 2

abbrev pub EXT_BLOCK_POINTERS : ℕ
EXT_BLOCK_POINTERS = 2048

-- what the superblock states is true of the image
pub record IsSealed (o : Order) (b : List ℕ) : Type 0 where
  pub size : size_word o b ≡ length b
  -- these flags and no others
  pub flags : flags_of o b ≡ FSID_VERSION_2 + (SORTED_DIRS + EXT_BLOCK_POINTERS)
  -- the crc of all bytes, with zeros in its own place
  pub crc : word o b 32 ≡ crc_of (without_crc b)
  -- blocks of 4,096 bytes
  pub blocks : word o b 40 * 4096 ≡ length b
  -- the names in the tree, and the root
  pub files : (most deepest : ℕ) (t : Node) → CramfsTree o b most deepest t
      → word o b 44 ≡ length (nodes t)
