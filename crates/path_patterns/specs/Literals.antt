-- `IsLiteral`: a text without wildcards and backslashes. (The wildcards are those of POSIX.1-2017,
-- XCU 2.13.)
use Rattle.std.specs.Prelude.{◌≡◌, ℕ, ◌==◌, ◌||◌, Bool, false, List, [], ◌∷◌}

-- `*`, `?`, `[` or a backslash
abbrev pub is_special : ℕ → Bool
is_special c = c == 42 || (c == 63 || (c == 91 || c == 92))

abbrev pub IsLiteral : List ℕ → Type 0
IsLiteral [] = Unit {0}
IsLiteral (c ∷ cs) = (is_special c ≡ false) × IsLiteral cs
