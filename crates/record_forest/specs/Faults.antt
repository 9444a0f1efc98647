-- `TooMany`, `HasFault`, `Twice`: the faults of references and records, defined without a forest.
-- `InList`: a reference is in the list of a directory. `HasDepth`: the number of names that lead
-- from the root to a record. `IsLeastFault`, `IsLeastFaultOf`: the least fault, by offset and then
-- by number. `IsNone`: there is no such fault. (This project's own.)
use Rattle.std.specs.Prelude.{◌≡◌, ◌≢◌, ℕ, ◌+◌, ◌<◌, ◌≤◌, List, length, Some, ◌⊎◌, Option, IfSome}
use Rattle.std.specs.Prelude.{IsSomeAnd}
use Rattle.std.specs.List.{AllByRecursion as Every}
use Rattle.record_forest.specs.declared.reference.Reference.{Reference}
use Rattle.rom_fields.specs.declared.fault.Fault.{Fault}
use Rattle.record_forest.specs.Members.{Pairs}
use Rattle.record_forest.specs.References.{References, IsLive, Reached}

-- there are more reached references than `most`, no two of them the same
abbrev pub TooMany : References → (Reference → Type 0) → ℕ → Type 0
TooMany g Sound most =
    (xs : List Reference) × Pairs (λ x y. x ≢ y) xs × Every (Reached g Sound) xs
    × (most < length xs)

-- a record that a reached reference leads to has this fault
pub record HasFault (g : References) (Sound : Reference → Type 0)
    (Faulty : Reference → Fault → Type 0)
    (e : Fault) : Type 0 where
  pub reference : Reference
  pub reached : Reached g Sound reference
  pub faulty : Faulty reference e

-- two different reached references lead to the record at q
pub record Twice (g : References) (Sound : Reference → Type 0) (q : ℕ) : Type 0 where
  pub one : Reference
  pub other : Reference
  pub differ : one ≢ other
  pub one_reached : Reached g Sound one
  pub other_reached : Reached g Sound other
  pub one_leads : g.target one ≡ Some q
  pub other_leads : g.target other ≡ Some q

-- at a lesser offset, or at the same one with a number that is not greater
abbrev pub NotAfter : Fault → Fault → Type 0
NotAfter d e = (d.at < e.at) ⊎ ((d.at ≡ e.at) × (d.number ≤ e.number))

-- the least fault of a phase
pub record IsLeastFault (P : Fault → Type 0) (e : Fault) : Type 0 where
  pub here : P e
  pub least : (d : Fault) → P d → NotAfter e d

-- the least fault for which P holds, or none if there is none
pub record IsLeastFaultOf (P : Fault → Type 0) (o : Option Fault) : Type 0 where
  pub here : IfSome o P
  pub least : (d : Fault) → P d → IsSomeAnd o (λ e. NotAfter e d)

-- P holds for no fault
abbrev pub IsNone : (Fault → Type 0) → Type 0
IsNone P = (e : Fault) → P e → ⊥

-- the least offset for which P holds
pub record IsLeast (P : ℕ → Type 0) (p : ℕ) : Type 0 where
  pub here : P p
  pub least : (q : ℕ) → P q → p ≤ q

-- none of these faults
pub record IsClean (g : References) (Sound : Reference → Type 0) (most : ℕ) : Type 0 where
  pub few : TooMany g Sound most → ⊥
  pub sound : (x : Reference) → Reached g Sound x → Sound x
  pub once : (q : ℕ) → Twice g Sound q → ⊥

-- x is a reference in the list of the directory at d. What follows the superblock's reference is in
-- the root's own list.
pub data InList (g : References) (Sound : Reference → Type 0) : ℕ → Reference → Type 0 where
  first : {d : ℕ} {x y : Reference} → Reached g Sound x → Sound x → g.target x ≡ Some d
      → g.own x ≡ y → IsLive g y
      → InList g Sound d y
  next : {d : ℕ} {x y : Reference} → InList g Sound d x → Sound x → g.after x ≡ y → IsLive g y
      → InList g Sound d y
  beside_root : {d : ℕ} {y : Reference} → Sound g.top → g.target g.top ≡ Some d → g.after g.top ≡ y
      → IsLive g y
      → InList g Sound d y

-- the record at p is n names below the root
pub data HasDepth (g : References) (Sound : Reference → Type 0) : ℕ → ℕ → Type 0 where
  root : {r : ℕ} → g.target g.top ≡ Some r → HasDepth g Sound r 0
  below : {d p n : ℕ} {x : Reference} → HasDepth g Sound d n → InList g Sound d x
      → g.target x ≡ Some p
      → g.target g.top ≢ Some p → HasDepth g Sound p (n + 1)
