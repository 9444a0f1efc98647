-- `IsTooDeep`, `IsNameFault`, `IsLaterFault`: the faults that the phases of depth, extents and
-- names look for among the rows of a forest. (This project's own.)
use Rattle.std.specs.Prelude.{◌≡◌, ◌≢◌, ℕ, ◌<◌, ◌≤◌, ◌==◌, Bool, true, false, length, slice_index}
use Rattle.std.specs.Prelude.{List, ◌∷◌, ◌++◌, None, Some}
use Rattle.std.specs.List.{Any, list_any}
use Rattle.rom_fields.specs.declared.fault.Fault.{Fault}
use Rattle.record_forest.specs.declared.reference.Row.{Row}
use Rattle.record_forest.specs.Sweep.{IsLeastRowFault}
use Rattle.romfs_format.specs.Record.{name_of, type_of}
use Rattle.rom_fields.specs.Extents.{OverlapsAt, IsLeastOf}
use Rattle.romfs_format.specs.Tree.{follow, LeadsWell, extents_of, listed_rows}
use Rattle.rom_tree.specs.Dots.{dot, dot_dot, is_dots}
use Rattle.rom_fields.specs.FaultNumbers.{TOO_DEEP, OVERLAP, DUPLICATE_NAME, DOT, HARD_LINK}

-- the offsets of the rows, in rising order
pub record AreOffsets (rows : List Row) (offsets : List ℕ) : Type 0 where
  pub rise : (i j : ℕ) → i ≤ j → j < length offsets → slice_index offsets i ≤ slice_index offsets j
  pub same : (q : ℕ) → list_any (λ y. y == q) offsets ≡ list_any (λ (x : Row). x.offset == q) rows

-- 21 TooDeep: an entry deeper than the limit
abbrev pub IsTooDeep : List ℕ → ℕ → List Row → Row → ℕ → Type 0
IsTooDeep b most before x n =
    (n ≡ TOO_DEEP) × (is_dots (name_of b x.offset) ≡ false) × (most < x.depth)

abbrev pub IsShallow : List ℕ → ℕ → List Row → Row → Type 0
IsShallow b most before x = is_dots (name_of b x.offset) ≡ false → x.depth ≤ most

-- an earlier row of the same list has the same name
abbrev pub Repeats : List ℕ → List Row → Row → Type 0
Repeats b before x = Any (λ (y : Row). (y.directory ≡ x.directory)
    × (name_of b y.offset ≡ name_of b x.offset)) before

-- whether an earlier row of the same list has the same name
pub record FindsRepeated (b : List ℕ) (before : List Row) (x : Row) (repeated : Bool) : Type 0 where
  pub old : repeated ≡ true → Repeats b before x
  pub new : repeated ≡ false → Repeats b before x → ⊥

-- 23 DupName, 24 Dot, 25 HardLink
pub data IsNameFault (b : List ℕ) (r : ℕ) (all before : List Row) (x : Row) : ℕ → Type 0 where
  repeated : {n : ℕ} → n ≡ DUPLICATE_NAME → Repeats b before x → IsNameFault b r all before x n
  here_astray : {n : ℕ} → n ≡ DOT → name_of b x.offset ≡ dot
      → follow b all 8 x.offset ≢ Some x.directory
      → IsNameFault b r all before x n
  above_astray : {n : ℕ} → n ≡ DOT → name_of b x.offset ≡ dot_dot
      → follow b all 8 x.offset ≢ Some x.parent
      → IsNameFault b r all before x n
  root_renamed : {n : ℕ} → n ≡ DOT → x.offset ≡ r → name_of b x.offset ≢ dot
      → IsNameFault b r all before x n
  link_astray : {n : ℕ} → n ≡ HARD_LINK → is_dots (name_of b x.offset) ≡ false
      → type_of b x.offset ≡ 0
      → ((q : ℕ) → follow b all 8 x.offset ≡ Some q → type_of b q ≢ 1 → ⊥)
      → IsNameFault b r all before x n

pub record IsWellNamed (b : List ℕ) (r : ℕ) (all before : List Row) (x : Row) : Type 0 where
  pub fresh : Repeats b before x → ⊥
  pub leads : LeadsWell b all x
  pub root : x.offset ≡ r → name_of b x.offset ≡ dot

-- no entry is too deep, nothing overlaps, and each name is valid in its list
pub record AreWell (b : List ℕ) (r most : ℕ) (all : List Row) : Type 0 where
  pub shallow : (before : List Row) (x : Row) (after : List Row) → all ≡ before ++ x ∷ after
      → IsShallow b most before x
  pub apart : (p : ℕ) → OverlapsAt (extents_of b r all) p → ⊥
  pub named : (before : List Row) (x : Row) (after : List Row)
      → listed_rows b r all ≡ before ++ x ∷ after
      → IsWellNamed b r all before x

-- the least fault of the first of these phases that has one
pub data IsLaterFault (b : List ℕ) (r most : ℕ) (all : List Row) (e : Fault) : Type 0 where
  deep : IsLeastRowFault (IsShallow b most) (IsTooDeep b most) all (Some e)
      → IsLaterFault b r most all e
  overlap : IsLeastRowFault (IsShallow b most) (IsTooDeep b most) all None → {p : ℕ}
      → IsLeastOf (OverlapsAt (extents_of b r all)) (Some p)
      → e ≡ record { number = OVERLAP; at = p }
      → IsLaterFault b r most all e
  name : IsLeastRowFault (IsShallow b most) (IsTooDeep b most) all None
      → IsLeastOf (OverlapsAt (extents_of b r all)) None
      → IsLeastRowFault (IsWellNamed b r all) (IsNameFault b r all) (listed_rows b r all) (Some e)
      → IsLaterFault b r most all e
