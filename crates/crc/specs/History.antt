-- For private functions of `blocks`. A history is the 300 bytes before some bytes, which have still
-- to be added to them. `after_history`: the remainder after these bytes. `StandsFor`: a history has
-- the same effect as a remainder. `TakesIn`: it becomes another history by taking in bytes. (This
-- project's own.)
--
-- A remainder is that of a polynomial, whose highest powers come first. x^300 + x^155 + x^117 +
-- x^89 + 1 is a multiple of the CRC's polynomial, and so is the same polynomial with x^8 in place
-- of x. So a byte may be added (xor) to the bytes that come 145, 183, 211 and 300 bytes after it,
-- and then be taken as zero.
use Rattle.std.specs.Prelude.{◌≡◌, ℕ, zero, suc, ◌-◌, ◌*◌, ◌≤◌, List, ◌++◌, length, drop}
use Rattle.std.specs.Int.Bits.{bit_xor}
use Rattle.crc.specs.Crc.{after_bit, after_bytes}

-- the remainder c after one more bit, which is 0
unfoldable pub step : ℕ → ℕ
step c = after_bit c 0

-- after n of them
unfoldable pub steps : ℕ → ℕ → ℕ
steps zero c = c
steps (suc n) c = steps n (step c)

-- the part of these bytes in a remainder after n bytes, to the first of which they are added
unfoldable pub added : List ℕ → ℕ → ℕ
added xs n = steps (8 * (n - length xs)) (after_bytes 0 xs)

-- the remainder after some bytes, to which 300 earlier ones have still to be added: the last 145 of
-- them, the last 183, the last 211 and all
unfoldable pub after_history : List ℕ → List ℕ → ℕ
after_history history bytes =
    let n = length bytes in
    bit_xor (after_bytes 0 bytes)
    (bit_xor (added (drop 155 history) n)
    (bit_xor (added (drop 117 history) n) (bit_xor (added (drop 89 history) n) (added history n))))

-- a history stands for the remainder c
abbrev pub StandsFor : List ℕ → ℕ → Type 0
StandsFor history c =
    (next : List ℕ) → 300 ≤ length next → after_history history next ≡ after_bytes c next

-- a history becomes another by taking in these bytes
abbrev pub TakesIn : List ℕ → List ℕ → List ℕ → Type 0
TakesIn old new bytes =
    (next : List ℕ) → 300 ≤ length next → after_history new next ≡ after_history old (bytes ++ next)
