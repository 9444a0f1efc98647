-- The names by which the sources of a manifest are opened. (This project's own.)
use Rattle.std.specs.Prelude.{ℕ, ◌-◌, ◌==◌, if◌then◌else◌, not, Bool, List, [], ◌∷◌, ◌++◌, length}
use Rattle.std.specs.Prelude.{get_or, map, Option, None, Some}

-- a directory's name has a last byte, and that is no slash
abbrev pub needs_slash : List ℕ → Bool
needs_slash directory = not (get_or directory (length directory - 1) 47 == 47)

-- a directory's name, with a slash behind it if it needs one
abbrev pub front_of : List ℕ → List ℕ
front_of directory = if needs_slash directory then directory ++ 47 ∷ [] else directory

-- a source in a directory; one that begins with a slash keeps its name
abbrev pub joined : List ℕ → List ℕ → List ℕ
joined directory [] = front_of directory
joined directory (b ∷ bs) = if b == 47 then b ∷ bs else front_of directory ++ b ∷ bs

-- the sources are opened by their own names, or as they are in a directory
abbrev pub opened_as : Option (List ℕ) → List (List ℕ) → List (List ℕ)
opened_as None sources = sources
opened_as (Some directory) sources = map (joined directory) sources
