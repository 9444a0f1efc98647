-- `IsPlain`: a path that leads down from a directory, and nowhere else. `LeadsThrough`: a path
-- leads through another. A path is its bytes from the directory on, as `/a/b`. (This project's
-- own.)
use Rattle.std.specs.Prelude.{◌≡◌, ◌≢◌, ℕ, List, [], ◌∷◌, ◌++◌}

abbrev pub Each : {A : Type 0} → (A → Type 0) → List A → Type 0
Each P [] = Unit {0}
Each P (x ∷ xs) = P x × Each P xs

-- A name of one file: not empty, neither `.` nor `..`, with no slash and no zero.
pub record IsName (name : List ℕ) : Type 0 where
  pub some : name ≢ []
  pub no_dot : name ≢ 46 ∷ []
  pub no_dots : name ≢ 46 ∷ 46 ∷ []
  pub bytes : Each (λ b. (b ≢ 47) × (b ≢ 0)) name

-- the path of names, each behind a slash
abbrev pub path_of : List (List ℕ) → List ℕ
path_of [] = []
path_of (name ∷ names) = 47 ∷ name ++ path_of names

-- A path of one name or more.
pub record IsPlain (path : List ℕ) : Type 0 where
  pub first : List ℕ
  pub others : List (List ℕ)
  pub is : path ≡ path_of (first ∷ others)
  pub first_name : IsName first
  pub other_names : Each IsName others

-- q leads through p
abbrev pub LeadsThrough : List ℕ → List ℕ → Type 0
LeadsThrough p q = (rest : List ℕ) × (q ≡ p ++ 47 ∷ rest)
