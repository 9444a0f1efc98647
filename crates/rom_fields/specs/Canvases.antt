-- `Left`: the part of a buffer behind the ranges that were taken from it. `LiesIn`: a range lies in
-- this part. `window`, `behind`: the bytes of a range, and the part behind the range. (This
-- project's own.)
use Rattle.std.specs.Prelude.{ℕ, ◌+◌, ◌-◌, ◌≤◌, List, length, take, drop}

-- the bytes behind the last window, and their offset in the buffer
pub record Left : Type 0 where
  pub at : ℕ
  pub bytes : List ℕ

-- a range lies in them
abbrev pub LiesIn : Left → ℕ → ℕ → Type 0
LiesIn left start len = (left.at ≤ start) × (start + len ≤ left.at + length left.bytes)

-- the bytes of a range, and the part that is left behind it
abbrev pub window : Left → ℕ → ℕ → List ℕ
window left start len = take len (drop (start - left.at) left.bytes)

abbrev pub behind : Left → ℕ → ℕ → Left
behind left start len =
    record { at = start + len; bytes = drop len (drop (start - left.at) left.bytes) }
