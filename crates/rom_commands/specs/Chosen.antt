-- `is_chosen`: whether patterns choose the file at a path. (This project's own.)
use Rattle.std.specs.Prelude.{ℕ, Bool, true, List, [], ◌∷◌}
use Rattle.path_patterns.specs.Several.{fits_any}
use Rattle.path_patterns.specs.declared.pattern.Piece.{Piece}

-- one of the patterns matches the path, or there is no pattern
abbrev pub is_chosen : List (List Piece) → List ℕ → Bool
is_chosen [] path = true
is_chosen (p ∷ ps) path = fits_any (p ∷ ps) path
