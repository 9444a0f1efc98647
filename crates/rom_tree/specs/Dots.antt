-- `dot`, `dot_dot`, `is_dots`: the names of a directory itself and of its parent, `.` and `..`
-- (POSIX.1-2017, 3.170 "Dot" and 3.171 "Dot-Dot").
use Rattle.std.specs.Prelude.{ℕ, Bool, false, ◌==◌, if◌then◌else◌, List, [], ◌∷◌}

abbrev pub dot : List ℕ
dot = 46 ∷ []

abbrev pub dot_dot : List ℕ
dot_dot = 46 ∷ 46 ∷ []

-- a name is `.` or `..`
abbrev pub is_dots : List ℕ → Bool
is_dots [] = false
is_dots (x ∷ []) = x == 46
is_dots (x ∷ y ∷ []) = if x == 46 then y == 46 else false
is_dots (x ∷ y ∷ z ∷ more) = false
