-- `MarksRepeats`: a mark for each name, set if an earlier name of the same list is the same.
-- `AreNames`: names are those of the rows. (This project's own.)
use Rattle.std.specs.Prelude.{◌≡◌, ℕ, ◌<◌, Bool, true, false, List, length, get_or}
use Rattle.record_forest.specs.declared.listed.ListedName.{ListedName}
use Rattle.record_forest.specs.declared.reference.Row.{Row}

-- the index of each name is its index in the list
abbrev pub AreNumbered : List ListedName → Type 0
AreNumbered xs = (i : ℕ) (d : ListedName) → i < length xs → (get_or xs i d).index ≡ i

-- the names are in one list and are the same
abbrev pub AreAlike : ListedName → ListedName → Type 0
AreAlike x y = (x.list ≡ y.list) × (x.name.now ≡ y.name.now)

-- a name of a lesser index is in the same list and is the same
abbrev pub Repeats : List ListedName → ℕ → Type 0
Repeats xs i = (j : ℕ) × (j < i) × ((d : ListedName) → AreAlike (get_or xs j d) (get_or xs i d))

-- a mark for each name, set if it repeats an earlier one
pub record MarksRepeats (xs : List ListedName) (marks : List Bool) : Type 0 where
  pub count : length marks ≡ length xs
  pub set : (i : ℕ) → i < length xs → get_or marks i false ≡ true → Repeats xs i
  pub clear : (i : ℕ) → i < length xs → get_or marks i false ≡ false → Repeats xs i → ⊥

-- the names are those of the rows, each at the index of its row
pub record AreNames (name : ℕ → List ℕ) (rows : List Row) (xs : List ListedName) : Type 0 where
  pub count : length xs ≡ length rows
  pub numbered : AreNumbered xs
  pub list : (i : ℕ) (d : ListedName) (e : Row) → i < length rows
      → (get_or xs i d).list ≡ (get_or rows i e).directory
  pub named : (i : ℕ) (d : ListedName) (e : Row) → i < length rows
      → (get_or xs i d).name.now ≡ name (get_or rows i e).offset
