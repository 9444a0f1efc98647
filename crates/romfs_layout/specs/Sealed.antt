-- `IsSealed`: a romfs image states the number of its accessible bytes, has their checksum, and has
-- zeros behind them. (Linux Documentation/filesystems/romfs.rst, and genromfs, which pads an image
-- to a multiple of 1,024 bytes.)
use Rattle.std.specs.Prelude.{◌≡◌, ℕ, ◌-◌, ◌%◌, min, List, length, take, drop, replicate}
use Rattle.rom_fields.specs.Padding.{pad}
use Rattle.rom_fields.specs.Words.{words_sum}
use Rattle.romfs_format.specs.Tree.{full_size}

-- what the superblock states is true of the image
pub record IsSealed (b : List ℕ) : Type 0 where
  -- the number of accessible bytes
  pub sixteens : full_size b % 16 ≡ 0
  pub size : length b ≡ pad (full_size b) 1024
  pub zeros : drop (full_size b) b ≡ replicate (length b - full_size b) 0
  -- the sum of the words in the first 512 of them
  pub sum : words_sum (take (min 512 (full_size b)) b) ≡ 0
