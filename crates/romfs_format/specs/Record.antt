-- A romfs file header: the fields of the record at p among the accessible bytes b. `IsSound`: the
-- record is whole and well formed. `HasRecordFault`: its faults. (Linux
-- Documentation/filesystems/romfs.rst.)
--
-- All words are big-endian.
--   p       next: the offset of the next header of the directory, 0 after the last; its low four
--           bits are the mode
--   p + 4   spec: its meaning depends on the type
--   p + 8   size
--   p + 12  checksum
--   p + 16  name, ended by a zero and padded with zeros to a multiple of 16; then the data
use Rattle.std.specs.Prelude.{◌≡◌, ◌≢◌, ℕ, ◌+◌, ◌-◌, ◌*◌, ◌/◌, ◌%◌, ◌<◌, ◌≤◌, Bool, if◌then◌else◌}
use Rattle.std.specs.Prelude.{◌==◌, ◌||◌, IsTrue, List, [], ◌∷◌, length, drop, ◌⊎◌}
use Rattle.std.specs.List.{Contains}
use Rattle.rom_fields.specs.Words.{word_be, words_sum, part_of}
use Rattle.rom_fields.specs.FaultNumbers.{BOUNDS, HEADER_SUM, BAD_NAME, LINK_SIZE}

-- the offset without its low four bits, which are not part of it
abbrev pub align16 : ℕ → ℕ
align16 n = n / 16 * 16

-- the least multiple of 16 that is at least n
abbrev pub pad16 : ℕ → ℕ
pad16 n = (n + 15) / 16 * 16

-- the offset of the next record of the list, 0 after the last
unfoldable pub next_of : List ℕ → ℕ → ℕ
next_of b p = align16 (word_be b p)

-- 0 hard link, 1 directory, 2 regular file, 3 symbolic link, 4 block device, 5 character device, 6
-- socket, 7 fifo
unfoldable pub type_of : List ℕ → ℕ → ℕ
type_of b p = word_be b p % 8

-- the spec as an offset: the target of a hard link, the first header of a directory's list
unfoldable pub spec_offset_of : List ℕ → ℕ → ℕ
spec_offset_of b p = align16 (word_be b (p + 4))

unfoldable pub size_of : List ℕ → ℕ → ℕ
size_of b p = word_be b (p + 8)

-- the bytes before the first zero, or all if there is none
abbrev pub before_zero : List ℕ → List ℕ
before_zero [] = []
before_zero (x ∷ xs) = if x == 0 then [] else x ∷ before_zero xs

unfoldable pub name_of : List ℕ → ℕ → List ℕ
name_of b p = before_zero (drop (p + 16) b)

-- the offset at which the record ends and its data begin
unfoldable pub end_of : List ℕ → ℕ → ℕ
end_of b p = p + 16 + pad16 (length (name_of b p) + 1)

-- regular files and symbolic links have data
abbrev pub has_data : ℕ → Bool
has_data kind = (kind == 2) || (kind == 3)

-- the first record of the list of a directory; other records have no list
unfoldable pub first_of : List ℕ → ℕ → ℕ
first_of b p = if type_of b p == 1 then spec_offset_of b p else 0

-- the record at p is whole and well formed, in an image whose root is at r
pub record IsSound (b : List ℕ) (r p : ℕ) : Type 0 where
  pub from_root : r ≤ p
  pub header : p + 32 ≤ length b
  pub name_ends : p + 16 + length (name_of b p) < length b
  pub name_short : length (name_of b p) < 256
  pub within : end_of b p ≤ length b
  pub named : 0 < length (name_of b p)
  pub no_slash : Contains (name_of b p) 47 → ⊥
  pub sum : words_sum (part_of b p (end_of b p - p)) ≡ 0
  pub data_within : IsTrue (has_data (type_of b p)) → end_of b p + size_of b p ≤ length b
  pub link_size : type_of b p ≡ 3 → (1 ≤ size_of b p) × (size_of b p ≤ 4095)

-- its first 32 bytes are among the accessible bytes, from the root on
abbrev pub HeaderLies : List ℕ → ℕ → ℕ → Type 0
HeaderLies b r p = (r ≤ p) × (p + 32 ≤ length b)

-- a zero ends its name within 256 bytes
abbrev pub NameEnds : List ℕ → ℕ → Type 0
NameEnds b p = (p + 16 + length (name_of b p) < length b) × (length (name_of b p) < 256)

-- all of it is among the accessible bytes, except perhaps its data
abbrev pub IsWhole : List ℕ → ℕ → ℕ → Type 0
IsWhole b r p = HeaderLies b r p × NameEnds b p × (end_of b p ≤ length b)

-- The record at p has the fault of this number: 11 Bounds, 12 HeaderSum, 13 BadName, 15 LinkSize.
-- If it is not whole, it has only one fault (this project's own).
pub data HasRecordFault (b : List ℕ) (r p : ℕ) : ℕ → Type 0 where
  outside : {n : ℕ} → n ≡ BOUNDS → (HeaderLies b r p → ⊥) → HasRecordFault b r p n
  name_unended : {n : ℕ} → n ≡ BAD_NAME → HeaderLies b r p → (NameEnds b p → ⊥)
      → HasRecordFault b r p n
  end_outside : {n : ℕ} → n ≡ BOUNDS → HeaderLies b r p → NameEnds b p → length b < end_of b p
      → HasRecordFault b r p n
  data_outside : {n : ℕ} → n ≡ BOUNDS → IsWhole b r p → IsTrue (has_data (type_of b p))
      → length b < end_of b p + size_of b p → HasRecordFault b r p n
  bad_sum : {n : ℕ} → n ≡ HEADER_SUM → IsWhole b r p → words_sum (part_of b p (end_of b p - p)) ≢ 0
      → HasRecordFault b r p n
  empty_name : {n : ℕ} → n ≡ BAD_NAME → IsWhole b r p → length (name_of b p) ≡ 0
      → HasRecordFault b r p n
  slash : {n : ℕ} → n ≡ BAD_NAME → IsWhole b r p → Contains (name_of b p) 47
      → HasRecordFault b r p n
  link_size : {n : ℕ} → n ≡ LINK_SIZE → IsWhole b r p → type_of b p ≡ 3
      → (size_of b p ≡ 0) ⊎ (4095 < size_of b p)
      → HasRecordFault b r p n
