-- `runs`: the pieces of a file in the image, as few as possible. `joined`, `GoOn`, `AreApart`:
-- their properties. `LieAt`: the image's bytes of each piece are the file's. `IsWholeRun`: the
-- longest run from a byte on. (This project's own.)
use Rattle.std.specs.Prelude.{◌≡◌, ℕ, suc, ◌+◌, ◌^◌, ◌<◌, ◌≤◌, ◌==◌, if◌then◌else◌, List, [], ◌∷◌}
use Rattle.std.specs.Prelude.{length, take, drop, slice_index, Option, MatchOption}
use Rattle.rom_tree.specs.declared.types.Run.{Run}
use Rattle.std.specs.List.{flat_map}
use Rattle.rom_tree.specs.Image.{IsRun}
use Rattle.rom_tree.specs.Tree.{row_from}

-- `count` bytes of a file from its byte `offset` on, which are in the image from offset `place` on
pub record Piece : Type 0 where
  pub place : ℕ
  pub count : ℕ
  pub offset : ℕ

abbrev pub piece : ℕ → ℕ → ℕ → Piece
piece p n o = record { place = p; count = n; offset = o }

-- the byte at offset p of the image, which is byte o of the file, before some runs: it lengthens
-- the first run if that begins at the next offset, otherwise it is a run of its own
abbrev pub put_before : ℕ → ℕ → List Piece → List Piece
put_before p o [] = piece p 1 o ∷ []
put_before p o (r ∷ rs) =
    if r.place == suc p then piece p (suc r.count) o ∷ rs else piece p 1 o ∷ r ∷ rs

-- the runs of the bytes at some offsets, the first of which is byte o of the file
unfoldable pub runs_from : ℕ → List ℕ → List Piece
runs_from o [] = []
runs_from o (p ∷ ps) = put_before p o (runs_from (suc o) ps)

-- the runs of a file with these offsets of its bytes
abbrev pub runs : List ℕ → List Piece
runs ps = runs_from 0 ps

-- r is the longest run from byte `at` on
pub record IsWholeRun (ps : List ℕ) (at : ℕ) (r : Run) : Type 0 where
  pub run : IsRun ps at r
  pub ends : at + r.len < length ps → slice_index ps (at + r.len) ≡ r.place + r.len → ⊥
  pub small : at + r.len < 2 ^ 32

-- there is no run if there is no byte `at`, and only then
abbrev pub GivesWholeRun : List ℕ → ℕ → Option Run → Type 0
GivesWholeRun ps at r = MatchOption r (length ps ≤ at) (IsWholeRun ps at)

-- the offsets of all runs, one after the other
abbrev pub joined : List Piece → List ℕ
joined rs = flat_map (λ r. row_from r.place r.count) rs

-- Each run begins in the file where the one before it ends, from byte o to byte e, and none is
-- empty.
abbrev pub GoOn : ℕ → List Piece → ℕ → Type 0
GoOn o [] e = o ≡ e
GoOn o (r ∷ rs) e = (r.offset ≡ o) × (0 < r.count) × GoOn (o + r.count) rs e

-- no run begins at the offset at which the one before it ends
abbrev pub AreApart : List Piece → Type 0
AreApart [] = Unit {0}
AreApart (r ∷ []) = Unit {0}
AreApart (r ∷ s ∷ rs) = (s.place ≡ r.place + r.count → ⊥) × AreApart (s ∷ rs)

-- each run's bytes in the image b are those of the file from its offset on
abbrev pub LieAt : List ℕ → List ℕ → List Piece → Type 0
LieAt b file [] = Unit {0}
LieAt b file (r ∷ rs) =
    (take r.count (drop r.place b) ≡ take r.count (drop r.offset file)) × LieAt b file rs
