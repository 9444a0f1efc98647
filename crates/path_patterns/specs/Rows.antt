-- For each suffix of a path, from the empty one to the whole path: whether a predicate holds for
-- it. (This project's own.)
use Rattle.std.specs.Prelude.{ℕ, Bool, List, [], ◌∷◌, ◌++◌}

-- whether the predicate holds for the empty suffix, and so on up to the whole path
abbrev pub row_of : (List ℕ → Bool) → List ℕ → List Bool
row_of f [] = f [] ∷ []
row_of f (c ∷ cs) = row_of f cs ++ f (c ∷ cs) ∷ []
