-- `balance_of`: the checksum word of romfs, which brings the sum of the big-endian words of the
-- first 512 bytes to 0. `IsSum`: the sum so far, byte by byte. (Linux
-- Documentation/filesystems/romfs.rst.)
use Rattle.std.specs.Prelude.{◌≡◌, ℕ, ◌+◌, ◌*◌, ◌%◌, ◌^◌, min, nat_lt, if◌then◌else◌, ◌==◌, List}
use Rattle.std.specs.Prelude.{[], ◌∷◌, length}
use Rattle.rom_fields.specs.Sums.{balance}

-- the value of a byte's unit, by its index in its word
abbrev pub weight : ℕ → ℕ
weight k =
    if k % 4 == 0 then 16777216 else (if k % 4 == 1 then 65536 else (if k % 4 == 2 then 256 else 1))

-- what the byte x at index k adds
abbrev pub term : ℕ → ℕ → ℕ
term k x = if nat_lt k 512 then x * weight k else 0

-- what bytes add; the first is at index k
abbrev pub weighted : ℕ → List ℕ → ℕ
weighted k [] = 0
weighted k (x ∷ xs) = term k x + weighted (k + 1) xs

-- the word that brings the sum to 0
unfoldable pub balance_of : List ℕ → ℕ
balance_of xs = balance (weighted 0 xs)

-- `place` bytes of the first 512 were added, and `sum` is the sum of their words
unfoldable pub IsSum : ℕ → ℕ → List ℕ → Type 0
IsSum place sum xs = (place ≡ min (length xs) 512) × (sum ≡ weighted 0 xs % 2 ^ 32)
