-- `balanced`: bytes with a word that brings the sum of all their words to 0, as in a header of
-- romfs. `sealed`: bytes with a word that brings the sum of the first 512 bytes to 0, as in the
-- superblock of romfs. (Linux Documentation/filesystems/romfs.rst.)
use Rattle.std.specs.Prelude.{ℕ, ◌+◌, ◌-◌, ◌%◌, ◌^◌, List, ◌++◌, take, drop}
use Rattle.byteorder.specs.Endian.{big_bytes}
use Rattle.rom_fields.specs.Words.{words_total}

-- the word that brings a sum n to a multiple of 2^32
unfoldable pub balance : ℕ → ℕ
balance n = (2 ^ 32 - n % 2 ^ 32) % 2 ^ 32

-- two texts of bytes with a word between them that brings the sum of all words to 0
unfoldable pub balanced : List ℕ → List ℕ → List ℕ
balanced front back =
    front ++ (big_bytes 4 (balance (words_total front + words_total back)) ++ back)

-- bytes whose word at 12, which was zero, now brings the sum of the first 512 bytes to 0
unfoldable pub sealed : List ℕ → List ℕ
sealed b = take 12 b ++ (big_bytes 4 (balance (words_total (take 512 b))) ++ drop 16 b)
