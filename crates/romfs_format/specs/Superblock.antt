-- `HasImageFault`: the fault of a romfs image as a whole. It is the fault of the first test that
-- fails. (Linux Documentation/filesystems/romfs.rst. What is refused is this project's own.)
--
-- The tests in their order: 2 Short and 3 Magic at 0, 4 Size at 8, 5 Sum at 12, 9 Root at 16 or at
-- the root.
use Rattle.std.specs.Prelude.{◌≡◌, ◌≢◌, ℕ, ◌+◌, ◌<◌, ◌≤◌, min, List, length, take, drop}
use Rattle.rom_fields.specs.Words.{words_sum}
use Rattle.rom_fields.specs.declared.fault.Fault.{Fault}
use Rattle.romfs_format.specs.Record.{type_of, before_zero}
use Rattle.romfs_format.specs.Tree.{magic, full_size, root_of}
use Rattle.rom_fields.specs.FaultNumbers.{SHORT, MAGIC, SIZE, SUM, ROOT}

-- the bytes up to the full size
abbrev pub accessible : List ℕ → List ℕ
accessible bytes = take (full_size bytes) bytes

abbrev pub HasSize : List ℕ → Type 0
HasSize bytes = (32 ≤ full_size bytes) × (full_size bytes ≤ length bytes)

-- the words of the first 512 bytes, or of all if there are fewer, sum to 0
abbrev pub HasSum : List ℕ → Type 0
HasSum b = words_sum (take (min 512 (length b)) b) ≡ 0

-- a zero ends the volume name, and at least 32 bytes follow its padding
abbrev pub HasRoot : List ℕ → Type 0
HasRoot b = (16 + length (before_zero (drop 16 b)) < length b) × (root_of b + 32 ≤ length b)

pub data HasImageFault (bytes : List ℕ) : Fault → Type 0 where
  short : {e : Fault} → length bytes < 32 → e ≡ record { number = SHORT; at = 0 }
      → HasImageFault bytes e
  no_magic : {e : Fault} → 32 ≤ length bytes → take 8 bytes ≢ magic
      → e ≡ record { number = MAGIC; at = 0 }
      → HasImageFault bytes e
  bad_size : {e : Fault} → 32 ≤ length bytes → take 8 bytes ≡ magic → (HasSize bytes → ⊥)
      → e ≡ record { number = SIZE; at = 8 } → HasImageFault bytes e
  bad_sum : {e : Fault} → 32 ≤ length bytes → take 8 bytes ≡ magic → HasSize bytes
      → (HasSum (accessible bytes) → ⊥)
      → e ≡ record { number = SUM; at = 12 } → HasImageFault bytes e
  no_root : {e : Fault} → 32 ≤ length bytes → take 8 bytes ≡ magic → HasSize bytes
      → HasSum (accessible bytes)
      → (HasRoot (accessible bytes) → ⊥) → e ≡ record { number = ROOT; at = 16 }
      → HasImageFault bytes e
  root_kind : {e : Fault} → 32 ≤ length bytes → take 8 bytes ≡ magic → HasSize bytes
      → HasSum (accessible bytes)
      → HasRoot (accessible bytes)
      → type_of (accessible bytes) (root_of (accessible bytes)) ≢ 1
      → e ≡ record { number = ROOT; at = root_of (accessible bytes) } → HasImageFault bytes e
