-- `Stands`: a finite forest of records is the one that the references describe. `all_rows`: its
-- records in preorder. `IsForest`: each record is valid, none occurs twice, and there are not more
-- than the limit. `count`: the number of a forest's records. `stands_in`: whether one of them is at
-- an offset. `Everywhere`: something holds for each of them. `NamesDiffer`: two names in one list
-- differ. (This project's own.)
use Rattle.std.specs.Prelude.{◌≡◌, ◌≢◌, ℕ, suc, ◌+◌, ◌≤◌, ◌==◌, Bool, true, false, if◌then◌else◌}
use Rattle.std.specs.Prelude.{List, [], ◌∷◌, ◌++◌, length, None, Some}
use Rattle.std.specs.List.{All, AllPairs}
use Rattle.record_forest.specs.declared.reference.Reference.{Reference}
use Rattle.record_forest.specs.declared.reference.Row.{Row}
use Rattle.record_forest.specs.References.{References}

-- The records of a list in order: the offset of the first, its own list, and the records after it.
pub data Forest : Type 0 where
  none : Forest
  at : ℕ → Forest → Forest → Forest

-- P holds for the offset of each record
abbrev pub Everywhere : (ℕ → Type 0) → Forest → Type 0
Everywhere P none = Unit {0}
Everywhere P (at p own after) = P p × Everywhere P own × Everywhere P after

-- the number of its records
abbrev pub count : Forest → ℕ
count none = 0
count (at p own after) = suc (count own + count after)

-- one of its records is at the offset q
abbrev pub stands_in : Forest → ℕ → Bool
stands_in none q = false
stands_in (at p own after) q =
    if p == q then true else (if stands_in own q then true else stands_in after q)

-- The references from x on describe this forest.
abbrev pub Stands : References → Reference → Forest → Type 0
Stands g x none = g.target x ≡ None
Stands g x (at p own after) =
    (g.target x ≡ Some p) × Stands g (g.own x) own × Stands g (g.after x) after

-- The records of a forest in preorder, in the list of a directory that has this parent.
abbrev pub rows : References → Reference → ℕ → ℕ → ℕ → Forest → List Row
rows g x directory parent depth none = []
rows g x directory parent depth (at p own after) =
    record { offset = p; reference = x; directory = directory; parent = parent; depth = depth }
    ∷ rows g (g.own x) p directory (depth + 1) own
    ++ rows g (g.after x) directory parent depth after

-- The root is its own directory and parent, at depth 0. The record that follows it is in its own
-- list: if the root is the first record of its own list, the other entries follow it.
abbrev pub all_rows : References → Forest → List Row
all_rows g none = []
all_rows g (at r own after) =
    record { offset = r; reference = g.top; directory = r; parent = r; depth = 0 }
    ∷ rows g (g.own g.top) r r 1 own ++ rows g (g.after g.top) r r 1 after

-- no offset occurs twice
abbrev pub AreSingle : List Row → Type 0
AreSingle xs = AllPairs (λ (x : Row) (y : Row). x.offset ≢ y.offset) xs

-- The records from the root on are those of a finite forest: each is valid, none occurs twice, and
-- there are at most `most`.
pub record IsForest (g : References) (Sound : Reference → Type 0) (most : ℕ)
    (f : Forest) : Type 0 where
  pub stands : Stands g g.top f
  pub sound : All (λ (x : Row). Sound x.reference) (all_rows g f)
  pub single : AreSingle (all_rows g f)
  pub few : length (all_rows g f) ≤ most

-- names in one list differ
abbrev pub NamesDiffer : (ℕ → List ℕ) → Row → Row → Type 0
NamesDiffer name x y = x.directory ≡ y.directory → name x.offset ≢ name y.offset
