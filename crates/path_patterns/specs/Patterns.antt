-- Which paths a pattern matches. (The wildcards are those of POSIX.1-2017, XCU 2.13. As in GNU
-- tar's --exclude, they also match slashes.)
use Rattle.std.specs.Prelude.{ℕ, if◌then◌else◌, ◌&&◌, ◌||◌, leb, not, Bool, true, false}
use Rattle.std.specs.Prelude.{List, [], ◌∷◌}
use Rattle.std.specs.List.{list_any}
use Rattle.std.specs.Str.{chars, is_utf8}
use Rattle.path_patterns.specs.declared.pattern.Piece.{Piece}
use Rattle.path_patterns.specs.declared.pattern.Piece.TheVariants.{Star, One}
use Rattle.path_patterns.specs.declared.pattern.Set.{Set}
use Rattle.path_patterns.specs.declared.pattern.Range.{Range}

-- a character is in a range; both ends are in it
abbrev pub is_within : ℕ → Range → Bool
is_within c r = leb r.first c && leb c r.last

-- a character is in one of the ranges of a set, or in none of them if the set is negated
abbrev pub has : Set → ℕ → Bool
has s c =
    if s.is_negated then not (list_any (is_within c) s.ranges.items)
    else list_any (is_within c) s.ranges.items

-- the predicate holds for a list, or for what is left of it after some of its first characters
abbrev pub any_rest : (List ℕ → Bool) → List ℕ → Bool
any_rest f [] = f []
any_rest f (c ∷ cs) = f (c ∷ cs) || any_rest f cs

-- a path starts with a character of the set, and the predicate holds for the rest
abbrev pub starts : Set → (List ℕ → Bool) → List ℕ → Bool
starts s f [] = false
starts s f (c ∷ cs) = has s c && f cs

-- The pieces match the whole path: each piece matches a part of it, in their order. A star matches
-- any number of characters, and another piece matches one character of its set.
abbrev pub fits : List Piece → List ℕ → Bool
fits [] [] = true
fits [] (c ∷ cs) = false
fits (Star ∷ ps) cs = any_rest (fits ps) cs
fits (One s ∷ ps) cs = starts s (fits ps) cs

-- the same for a path as bytes: they are UTF-8, and the pattern matches its characters
abbrev pub fits_bytes : List Piece → List ℕ → Bool
fits_bytes ps bs = is_utf8 bs && fits ps (chars bs)
