-- `laid`: bytes in which parts are at their offsets, and every other byte is zero. `HasAt`,
-- `HasParts`: bytes have a part, or all parts, at their offsets. `Rises`: parts are one after the
-- other. (This project's own.)
use Rattle.std.specs.Prelude.{◌≡◌, ℕ, ◌+◌, ◌-◌, ◌≤◌, ◌<◌, ◌⊎◌, List, [], ◌∷◌, ◌++◌, length, drop}
use Rattle.std.specs.Prelude.{replicate}

-- some bytes and the offset of the first
pub record Part : Type 0 where
  pub place : ℕ
  pub bytes : List ℕ

abbrev pub part : ℕ → List ℕ → Part
part place bytes = record { place = place; bytes = bytes }

abbrev pub end_of_part : Part → ℕ
end_of_part p = p.place + length p.bytes

-- the bytes so far, zeros up to the offset of the part, and the part
unfoldable pub with_part : List ℕ → Part → List ℕ
with_part out p = out ++ (replicate (p.place - length out) 0 ++ p.bytes)

-- the parts, one after the other, behind the bytes so far
abbrev pub laid : List ℕ → List Part → List ℕ
laid out [] = out
laid out (p ∷ ps) = laid (with_part out p) ps

-- the same bytes from `at` on: zeros up to the first part, the part, and what is behind it
abbrev pub bytes_from : ℕ → List Part → List ℕ
bytes_from at [] = []
bytes_from at (p ∷ ps) = replicate (p.place - at) 0 ++ (p.bytes ++ bytes_from (end_of_part p) ps)

-- the parts are one after the other, and none is before `at`
abbrev pub Rises : ℕ → List Part → Type 0
Rises at [] = Unit {0}
Rises at (p ∷ ps) = (at ≤ p.place) × Rises (end_of_part p) ps

-- the end of the last part, or `at` if there is none
abbrev pub end_of_parts : ℕ → List Part → ℕ
end_of_parts at [] = at
end_of_parts at (p ∷ ps) = end_of_parts (end_of_part p) ps

-- b has these bytes from `place` on
abbrev pub HasAt : List ℕ → ℕ → List ℕ → Type 0
HasAt b place bytes = (back : List ℕ) × (drop place b ≡ bytes ++ back)

-- every part is at its offset
abbrev pub HasParts : List ℕ → List Part → Type 0
HasParts b [] = Unit {0}
HasParts b (p ∷ ps) = HasAt b p.place p.bytes × HasParts b ps

-- the byte at i is in no part
abbrev pub IsOutside : ℕ → Part → Type 0
IsOutside i p = (i < p.place) ⊎ (end_of_part p ≤ i)
