-- `consecutive`: the longest front of offsets in which each is one more than the one before.
-- `lent`: the bytes at some offsets, and the first offset. (This project's own.)
use Rattle.std.specs.Prelude.{ℕ, suc, ◌==◌, List, [], ◌∷◌, take, drop, map, slice_index}
use Rattle.std.specs.Prelude.{if◌then◌else◌}
use Rattle.rom_tree.specs.Tree.{Node, places_of}
use Rattle.open_files.specs.Calls.{Lent}

abbrev pub first_place : List ℕ → ℕ
first_place [] = 0
first_place (p ∷ ps) = p

-- the longest front in which each offset is one more than the one before, and the first is p
abbrev pub consecutive_from : ℕ → List ℕ → List ℕ
consecutive_from p [] = []
consecutive_from p (q ∷ qs) = if q == p then q ∷ consecutive_from (suc p) qs else []

-- the longest front in which each offset is one more than the one before
unfoldable pub consecutive : List ℕ → List ℕ
consecutive ps = consecutive_from (first_place ps) ps

abbrev pub bytes_of : List ℕ → List ℕ → List ℕ
bytes_of b ps = map (λ p. slice_index b p) ps

abbrev pub lent_of : ℕ → List ℕ → Lent
lent_of p bs = record { place = p; bytes = bs }

-- the bytes at some offsets, and the first of these, or 0 if there are none
abbrev pub lent : List ℕ → List ℕ → Lent
lent b ps = lent_of (first_place ps) (bytes_of b ps)

-- the offsets of the next n bytes of a file from a position on
abbrev pub next_places : Node → ℕ → ℕ → List ℕ
next_places x p n = take n (drop p (places_of x))
