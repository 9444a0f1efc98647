-- `IsLongest`: how many bytes of a file, from one of its bytes on and up to a limit, also follow
-- one another in the image; and the offset of the first of them. `front_of`: the bytes at a file's
-- front that follow one another. (This project's own.)
use Rattle.std.specs.Prelude.{◌≡◌, ℕ, suc, ◌+◌, ◌^◌, ◌<◌, ◌≤◌, ◌==◌, if◌then◌else◌}
use Rattle.std.specs.Prelude.{List, [], ◌∷◌, length, take, drop, slice_index}

-- From byte `at` on, the longest consecutive front of at most `most` offsets has `len` of them and
-- begins at `place`, which is 0 if the front is empty.
pub record IsLongest (ps : List ℕ) (at most place len : ℕ) : Type 0 where
  pub within : 0 < len → at + len ≤ length ps
  pub fits : len ≤ most
  pub row : (k : ℕ) → k < len → slice_index ps (at + k) ≡ place + k
  pub ends : len < most → at + len < length ps → slice_index ps (at + len) ≡ place + len → ⊥
  pub some : len < most → at + len < length ps → 0 < len
  pub small : at + len < 2 ^ 64
  pub none : len ≡ 0 → place ≡ 0

-- how many offsets at the front follow one another, from p on
abbrev pub row_len : ℕ → List ℕ → ℕ
row_len p [] = 0
row_len p (q ∷ qs) = if q == p then suc (row_len (suc p) qs) else 0

-- the bytes at a file's front that follow one another, by the image's bytes and the file's offsets
abbrev pub front_of : List ℕ → List ℕ → List ℕ
front_of bytes [] = []
front_of bytes (p ∷ ps) = take (row_len p (p ∷ ps)) (drop p bytes)
