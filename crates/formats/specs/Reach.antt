-- `Reaches`: how many bytes at the front of a file a check reads. The first 76 bytes decide this.
-- `IsSumRefused`: the front of a file begins a romfs image that is not larger than the file, and
-- the sum of its first words is wrong. (This project's own.)
use Rattle.std.specs.Prelude.{◌≡◌, ◌≢◌, ℕ, ◌^◌, ◌<◌, ◌≤◌, max, min, if◌then◌else◌, List, length}
use Rattle.std.specs.Prelude.{take}
use Rattle.cramfs_format.specs.declared.order.Order.{Order}
use Rattle.cramfs_format.specs.Superblock.{has_crc, order_of, size_word}
use Rattle.formats.specs.Begins.{BeginsRomfs, BeginsCramfs}
use Rattle.rom_fields.specs.Words.{words_sum}
use Rattle.romfs_format.specs.Tree.{full_size}

-- the size that a cramfs image in this byte order states, and at least 76; or 2^28 if it states
-- none
abbrev pub size_in : Order → List ℕ → ℕ
size_in o head = if has_crc o head then max 76 (size_word o head) else 2 ^ 28

-- A check of a file reads at most n bytes at its front. `head` is the first 76 bytes, or all if
-- there are fewer.
pub data Reaches (head : List ℕ) (n : ℕ) : Type 0 where
  short : length head < 76 → n ≡ 76 → Reaches head n
  romfs : 76 ≤ length head → BeginsRomfs head → n ≡ max 76 (full_size head) → Reaches head n
  cramfs : 76 ≤ length head → BeginsCramfs head → n ≡ size_in (order_of head) head → Reaches head n
  neither : 76 ≤ length head → (BeginsRomfs head → ⊥) → (BeginsCramfs head → ⊥) → n ≡ 76
      → Reaches head n

-- The front of a file of `len` bytes begins a romfs image whose size the file has. The words of the
-- front, as far as the image goes, do not sum to 0. The front is 512 bytes, or all if there are
-- fewer.
pub record IsSumRefused (front : List ℕ) (len : ℕ) : Type 0 where
  pub long : 76 ≤ length front
  pub begins : BeginsRomfs front
  pub least : 32 ≤ full_size front
  pub most : full_size front ≤ len
  pub held : min 512 (full_size front) ≤ length front
  pub sum : words_sum (take (min 512 (full_size front)) front) ≢ 0
