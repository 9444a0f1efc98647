-- `Tree`: what a directory has in it. `all_below`: all entries below a directory, by their paths.
-- `AreAllBelow`: entries are exactly those of `all_below`, each once. `AreInOrder`: they are in the
-- order of the bytes of their paths. `IsDirectoryOf`, `IsReached`: the directories that a walk
-- enters. (This project's own.)
use Rattle.std.specs.Prelude.{◌≡◌, ◌⊎◌, ℕ, Bool, true, false, List, [], ◌∷◌, ◌++◌, Option, Some}
use Rattle.std.specs.Prelude.{None, ⊤, if◌then◌else◌}
use Rattle.std.specs.Cmp.Lexicographic.{slice_cmp}
use Rattle.std.specs.List.Sorted.{IsPermutation, IsSortedByKey}
use Rattle.std.specs.Ordering.{nat_cmp}

-- what a directory has in it: nothing more; or an entry, by its name and what is reported of it,
-- and more; or such an entry that is a directory to be entered, with what that has in it, and more
pub data Tree (T : Type 0) : Type 0 where
  Nil : Tree T
  Leaf : List ℕ → T → Tree T → Tree T
  Branch : List ℕ → T → Tree T → Tree T → Tree T

-- an entry by its path, with what is reported of it, and whether it is entered
pub record Name (T : Type 0) : Type 0 where
  pub path : List ℕ
  pub known : T
  pub is_entered : Bool

abbrev pub name : {T : Type 0} → List ℕ → T → Bool → Name T
name path known is_entered = record { path = path; known = known; is_entered = is_entered }

-- a directory's path, a slash, and a name
abbrev pub join : List ℕ → List ℕ → List ℕ
join path n = path ++ 47 ∷ n

-- all that is below the directory of this path
abbrev pub all_below : {T : Type 0} → List ℕ → Tree T → List (Name T)
all_below p Nil = []
all_below p (Leaf n known more) = name (join p n) known false ∷ all_below p more
all_below p (Branch n known inner more) =
    name (join p n) known true ∷ (all_below (join p n) inner ++ all_below p more)

-- what is in the directory itself
abbrev pub level : {T : Type 0} → List ℕ → Tree T → List (Name T)
level p Nil = []
level p (Leaf n known more) = name (join p n) known false ∷ level p more
level p (Branch n known inner more) = name (join p n) known true ∷ level p more

-- q is the path of a directory to be entered in the directory of path p, and has this in it
abbrev pub IsChild : {T : Type 0} → List ℕ → Tree T → List ℕ → Tree T → Type 0
IsChild p Nil q inner = ⊥
IsChild p (Leaf n known more) q inner = IsChild p more q inner
IsChild p (Branch n known i more) q inner =
    ((q ≡ join p n) × (inner ≡ i)) ⊎ IsChild p more q inner

-- p is the path of the top, or of a directory to be entered below it, and g is what that has in
-- it
pub data IsIn {T : Type 0} (top : List ℕ) (f : Tree T) : List ℕ → Tree T → Type 0 where
  itself : IsIn top f top f
  inside : (p : List ℕ) (g : Tree T) (q : List ℕ) (inner : Tree T) → IsIn top f p g
      → IsChild p g q inner → IsIn top f q inner

-- a directory's path, and its tree
pub record Top (T : Type 0) : Type 0 where
  pub path : List ℕ
  pub tree : Tree T

abbrev pub IsDirectoryOf : {T : Type 0} → Option (Top T) → List ℕ → Tree T → Type 0
IsDirectoryOf None p g = ⊥
IsDirectoryOf (Some t) p g = IsIn t.path t.tree p g

-- if a tree is reported, this is the path of its top, or of a directory to be entered below it
abbrev pub IsReached : {T : Type 0} → Option (Top T) → List ℕ → Type 0
IsReached None p = ⊤
IsReached {T} (Some t) p = (g : Tree T) × IsIn t.path t.tree p g

-- if a tree is reported, it is the one of this path
abbrev pub IsTop : {T : Type 0} → Option (Top T) → List ℕ → Type 0
IsTop None path = ⊤
IsTop (Some t) path = path ≡ t.path

-- these are exactly the entries below the top, each once, if a tree is reported
abbrev pub AreAllBelow : {T : Type 0} → Option (Top T) → List (Name T) → Type 0
AreAllBelow None names = ⊤
AreAllBelow (Some t) names = IsPermutation (all_below t.path t.tree) names

-- no path is less than the one before it, by its bytes
abbrev pub AreInOrder : {T : Type 0} → List (Name T) → Type 0
AreInOrder {T} names = IsSortedByKey (λ (n : Name T). n.path) (slice_cmp nat_cmp) names

-- the paths of those that are entered
abbrev pub entered : {T : Type 0} → List (Name T) → List (List ℕ)
entered [] = []
entered (n ∷ ns) = if n.is_entered then n.path ∷ entered ns else entered ns
