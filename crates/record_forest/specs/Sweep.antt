-- `IsLeastRowFault`: of the faults that a phase finds among the rows of a forest, the one at the
-- least offset, or none. (This project's own.)
use Rattle.std.specs.Prelude.{◌≡◌, ℕ, ◌≤◌, List, ◌∷◌, ◌++◌, Option, None, IfSome, IsSomeAnd}
use Rattle.rom_fields.specs.declared.fault.Fault.{Fault}
use Rattle.record_forest.specs.declared.reference.Row.{Row}
use Rattle.record_forest.specs.Faults.{IsLeast}

-- the fault is at a row, and the row has no fault of a lesser number; P is about the rows before a
-- row, the row, and a number
pub record StandsAtRow (P : List Row → Row → ℕ → Type 0) (xs : List Row) (e : Fault) : Type 0 where
  pub before : List Row
  pub row : Row
  pub after : List Row
  pub among : xs ≡ before ++ row ∷ after
  pub at : e.at ≡ row.offset
  pub number : IsLeast (P before row) e.number

-- The fault at the least offset of those of the rows, or none if each row is valid (C).
pub record IsLeastRowFault (C : List Row → Row → Type 0) (P : List Row → Row → ℕ → Type 0)
    (xs : List Row)
    (o : Option Fault) : Type 0 where
  pub clean : o ≡ None → (before : List Row) (x : Row) (after : List Row) → xs ≡ before ++ x ∷ after
      → C before x
  pub noted : IfSome o (StandsAtRow P xs)
  pub least : (before : List Row) (x : Row) (after : List Row) (n : ℕ) → xs ≡ before ++ x ∷ after
      → P before x n
      → IsSomeAnd o (λ e. e.at ≤ x.offset)
