-- `those_there`: the elements of a list that are there, in their order. (This project's own.)
use Rattle.std.specs.Prelude.{List, [], ◌∷◌, Option, Some, None}

abbrev pub those_there : {X : Type 0} → List (Option X) → List X
those_there [] = []
those_there (None ∷ xs) = those_there xs
those_there (Some x ∷ xs) = x ∷ those_there xs
