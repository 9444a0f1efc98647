-- The superblock of a cramfs image, 76 bytes. `order_of`: the byte order in which the bytes begin.
-- `accessible`: the accessible bytes at the front. `IsSuperblock`: the superblock is well formed,
-- and these are the accessible bytes. `HasImageFault`: the fault of an image as a whole. It is the
-- fault of the first test that fails. (Linux include/uapi/linux/cramfs_fs.h and
-- Documentation/filesystems/cramfs.rst. What is refused is this project's own.)
--
--   0 magic, 4 size, 8 flags, 16 signature (16 bytes), 32 crc, 64 the root's inode
-- The tests in their order: 2 Short and 3 Magic at 0, 4 Size at 4, 6 Flags at 8, 7 Crc at 32, 8
-- Signature at 16, 9 Root at 64.
use Rattle.std.specs.Prelude.{◌++◌, ◌≡◌, ◌≢◌, ℕ, ◌/◌, ◌%◌, ◌^◌, ◌<◌, ◌≤◌, ◌⊎◌, min, Bool, true}
use Rattle.std.specs.Prelude.{false, if◌then◌else◌, ◌==◌, List, [], ◌∷◌, length, take, drop}
use Rattle.rom_fields.specs.declared.fault.Fault.{Fault}
use Rattle.cramfs_format.specs.Order.{word}
use Rattle.cramfs_format.specs.declared.order.Order.{Order}
use Rattle.cramfs_format.specs.declared.order.Order.TheVariants.{Little, Big}
use Rattle.cramfs_format.specs.Inode.{type_of, offset_of, size_of}
use Rattle.cramfs_format.specs.Refers.{root_place}
use Rattle.crc.specs.Crc.{crc_of}
use Rattle.rom_fields.specs.FaultNumbers.{SHORT, MAGIC, SIZE, FLAGS, CRC, SIGNATURE, ROOT}

-- 28cd3d45 (hexadecimal)
abbrev pub magic : ℕ
magic = 684539205

-- the byte order of an image: big-endian if its first word is the magic in that order, otherwise
-- little-endian
unfoldable pub order_of : List ℕ → Order
order_of bytes = if word Big bytes 0 == magic then Big else Little

-- `Compressed ROMFS`
abbrev pub signature : List ℕ
signature =
    67 ∷ 111 ∷ 109 ∷ 112 ∷ 114 ∷ 101 ∷ 115 ∷ 115 ∷ 101 ∷ 100 ∷ 32 ∷ 82 ∷ 79 ∷ 77 ∷ 70 ∷ 83 ∷ []

abbrev pub size_word : Order → List ℕ → ℕ
size_word o bytes = word o bytes 4

abbrev pub flags_of : Order → List ℕ → ℕ
flags_of o bytes = word o bytes 8

-- the flag for a stored size and crc
abbrev pub has_crc : Order → List ℕ → Bool
has_crc o bytes = flags_of o bytes % 2 == 1

-- the flag for a root whose list may be anywhere
abbrev pub is_shifted : Order → List ℕ → Bool
is_shifted o bytes = flags_of o bytes / 2 ^ 10 % 2 == 1

-- the number of accessible bytes: the stored size, or that of all bytes, up to 2^28 (this project's
-- own)
unfoldable pub accessible_size : Order → List ℕ → ℕ
accessible_size o bytes = if has_crc o bytes then size_word o bytes else min (length bytes) (2 ^ 28)

abbrev pub accessible : Order → List ℕ → List ℕ
accessible o bytes = take (accessible_size o bytes) bytes

abbrev pub HasSize : Order → List ℕ → Type 0
HasSize o bytes =
    has_crc o bytes ≡ true → (76 ≤ size_word o bytes) × (size_word o bytes ≤ length bytes)

-- only the flags 0 to ff, 100 holes, 200 reserved, 400 shifted root, 800 extended block pointers
abbrev pub HasFlags : Order → List ℕ → Type 0
HasFlags o bytes = flags_of o bytes < 2 ^ 12

-- the bytes with the crc field set to zero
abbrev pub without_crc : List ℕ → List ℕ
without_crc b = take 32 b ++ (0 ∷ 0 ∷ 0 ∷ 0 ∷ [] ++ drop 36 b)

unfoldable pub HasCrc : Order → List ℕ → Type 0
HasCrc o b = has_crc o b ≡ true → word o b 32 ≡ crc_of (without_crc b)

abbrev pub HasSignature : List ℕ → Type 0
HasSignature b = take 16 (drop 16 b) ≡ signature

-- the root is a directory whose list begins behind the superblock, or 512 bytes further, or
-- anywhere if the flag is set; a list at 0 is empty
pub record HasRoot (o : Order) (b : List ℕ) : Type 0 where
  pub directory : type_of o b root_place ≡ 4
  pub begins : is_shifted o b ≡ false → (offset_of o b root_place ≡ 0)
      ⊎ ((offset_of o b root_place ≡ 76) ⊎ (offset_of o b root_place ≡ 588))
  pub empty : offset_of o b root_place ≡ 0 → size_of o b root_place ≡ 0

-- The superblock is well formed, and b are the accessible bytes.
pub record IsSuperblock (o : Order) (bytes b : List ℕ) : Type 0 where
  pub long : 76 ≤ length bytes
  pub begins : word o bytes 0 ≡ magic
  pub size : HasSize o bytes
  pub cut : b ≡ accessible o bytes
  pub flags : HasFlags o b
  pub crc : HasCrc o b
  pub signed : HasSignature b
  pub root : HasRoot o b

pub data HasImageFault (o : Order) (bytes : List ℕ) : Fault → Type 0 where
  short : {e : Fault} → length bytes < 76 → e ≡ record { number = SHORT; at = 0 }
      → HasImageFault o bytes e
  no_magic : {e : Fault} → 76 ≤ length bytes → word o bytes 0 ≢ magic
      → e ≡ record { number = MAGIC; at = 0 }
      → HasImageFault o bytes e
  bad_size : {e : Fault} → 76 ≤ length bytes → word o bytes 0 ≡ magic → (HasSize o bytes → ⊥)
      → e ≡ record { number = SIZE; at = 4 } → HasImageFault o bytes e
  bad_flags : {e : Fault} → 76 ≤ length bytes → word o bytes 0 ≡ magic → HasSize o bytes
      → (HasFlags o (accessible o bytes) → ⊥) → e ≡ record { number = FLAGS; at = 8 }
      → HasImageFault o bytes e
  bad_crc : {e : Fault} → 76 ≤ length bytes → word o bytes 0 ≡ magic → HasSize o bytes
      → HasFlags o (accessible o bytes) → (HasCrc o (accessible o bytes) → ⊥)
      → e ≡ record { number = CRC; at = 32 } → HasImageFault o bytes e
  unsigned : {e : Fault} → 76 ≤ length bytes → word o bytes 0 ≡ magic → HasSize o bytes
      → HasFlags o (accessible o bytes) → HasCrc o (accessible o bytes)
      → (HasSignature (accessible o bytes) → ⊥) → e ≡ record { number = SIGNATURE; at = 16 }
      → HasImageFault o bytes e
  bad_root : {e : Fault} → 76 ≤ length bytes → word o bytes 0 ≡ magic → HasSize o bytes
      → HasFlags o (accessible o bytes) → HasCrc o (accessible o bytes)
      → HasSignature (accessible o bytes) → (HasRoot o (accessible o bytes) → ⊥)
      → e ≡ record { number = ROOT; at = root_place } → HasImageFault o bytes e
