-- `fits_any`: one of several patterns matches a path. (As in GNU tar's --exclude with --anchored.)
use Rattle.std.specs.Prelude.{ℕ, Bool, List, [], ◌∷◌}
use Rattle.std.specs.List.{list_any}
use Rattle.path_patterns.specs.Patterns.{fits_bytes}
use Rattle.path_patterns.specs.declared.pattern.Piece.{Piece}

-- a path without its first byte, which is a slash
abbrev pub behind_slash : List ℕ → List ℕ
behind_slash [] = []
behind_slash (b ∷ bs) = bs

-- one of the patterns matches what is behind the slash
abbrev pub fits_any : List (List Piece) → List ℕ → Bool
fits_any patterns path = list_any (λ p. fits_bytes p (behind_slash path)) patterns
