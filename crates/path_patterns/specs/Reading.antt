-- The pieces of a pattern's text. (The wildcards are those of POSIX.1-2017, XCU 2.13, without
-- classes of characters. `^` negates a set as well, and an unfinished pattern is refused.)
use Rattle.std.specs.Prelude.{ℕ, zero, suc, ◌==◌, ◌&&◌, ◌||◌, not, Bool, true, false}
use Rattle.std.specs.Prelude.{if◌then◌else◌, List, [], ◌∷◌, ◌++◌, drop, length, Option, Some, None}
use Rattle.std.specs.Prelude.{Result, Ok, Err}
use Rattle.path_patterns.specs.declared.pattern.Piece.{Piece}
use Rattle.path_patterns.specs.declared.pattern.Piece.TheVariants.{Star, One}
use Rattle.path_patterns.specs.declared.pattern.Range.{Range}
use Rattle.path_patterns.specs.declared.reading.PatternError.{PatternError}
use Rattle.path_patterns.specs.declared.reading.PatternError.TheVariants.{Unfinished, Class}

-- a piece as it is read: none for a star, otherwise whether a set is negated, and its ranges
abbrev pub Part : Type 0
Part = Option (Bool × List Range)

abbrev pub part_of : Piece → Part
part_of Star = None
part_of (One s) = Some (s.is_negated, s.ranges.items)

abbrev pub and_then : {X Y : Type 0} → Result X PatternError → (X → Result Y PatternError)
    → Result Y PatternError
and_then (Ok x) f = f x
and_then (Err e) f = Err e

-- a text begins with this character
abbrev pub begins : ℕ → List ℕ → Bool
begins c [] = false
begins c (d ∷ ds) = d == c

abbrev pub is_nothing : {X : Type 0} → List X → Bool
is_nothing [] = true
is_nothing (x ∷ xs) = false

-- the character after a backslash, and the text after it
abbrev pub escaped : List ℕ → Result (ℕ × List ℕ) PatternError
escaped [] = Err Unfinished
escaped (c ∷ cs) = Ok (c, cs)

-- a character, which may have a backslash before it, and the text after it
abbrev pub character : List ℕ → Result (ℕ × List ℕ) PatternError
character [] = Err Unfinished
character (c ∷ cs) = if c == 92 then escaped cs else Ok (c, cs)

-- `[:`, `[.` or `[=`
abbrev pub is_class : List ℕ → Bool
is_class cs =
    begins 91 cs
    && (begins 58 (drop 1 cs) || (begins 46 (drop 1 cs) || begins 61 (drop 1 cs)))

abbrev pub range : ℕ → ℕ → Range
range a b = record { first = a; last = b }

-- a hyphen that is not the last character within its brackets
abbrev pub is_hyphen : List ℕ → Bool
is_hyphen cs = begins 45 cs && not (begins 93 (drop 1 cs))

-- the range that begins with a character, and the text after it
abbrev pub range_from : ℕ → List ℕ → Result (Range × List ℕ) PatternError
range_from a cs =
    if is_hyphen cs then and_then (character (drop 1 cs)) (λ p. Ok (range a p.0, p.1))
    else Ok (range a a, cs)

abbrev pub range_at : List ℕ → Result (Range × List ℕ) PatternError
range_at cs =
    if is_class cs then Err Class else and_then (character cs) (λ p. range_from p.0 p.1)

-- The ranges up to the closing bracket, after those that were read, and the text after it. A
-- closing bracket in front is a character. There are at most so many ranges.
abbrev pub ranges_from : ℕ → List Range → List ℕ → Result (List Range × List ℕ) PatternError
ranges_from zero rs cs = Err Unfinished
ranges_from (suc n) rs cs =
    if begins 93 cs && not (is_nothing rs) then Ok (rs, drop 1 cs)
    else and_then (range_at cs) (λ p. ranges_from n (rs ++ p.0 ∷ []) p.1)

-- `!` or `^`
abbrev pub is_negation : List ℕ → Bool
is_negation cs = begins 33 cs || begins 94 cs

-- the set whose opening bracket is before a text, and the text after it
abbrev pub set_in : Bool → List ℕ → Result (Part × List ℕ) PatternError
set_in negated cs =
    and_then (ranges_from (length cs) [] cs) (λ p. Ok (Some (negated, p.0), p.1))

abbrev pub set_at : List ℕ → Result (Part × List ℕ) PatternError
set_at cs = if is_negation cs then set_in true (drop 1 cs) else set_in false cs

-- the piece of one character, and the text after it
abbrev pub character_part : List ℕ → Result (Part × List ℕ) PatternError
character_part cs =
    and_then (character cs) (λ p. Ok (Some (false, range p.0 p.0 ∷ []), p.1))

-- the first piece of a text, and the text after it
abbrev pub part_at : List ℕ → Result (Part × List ℕ) PatternError
part_at cs =
    if begins 42 cs then Ok (None, drop 1 cs)
    else (if begins 63 cs then Ok (Some (true, []), drop 1 cs)
    else (if begins 91 cs then set_at (drop 1 cs)
    else character_part cs))

-- the pieces of a text, after those that were read; there are at most so many
abbrev pub parts_from : ℕ → List Part → List ℕ → Result (List Part) PatternError
parts_from zero ps cs = Ok ps
parts_from (suc n) ps cs =
    if is_nothing cs then Ok ps
    else and_then (part_at cs) (λ p. parts_from n (ps ++ p.0 ∷ []) p.1)

-- the pieces of a text, at most as many as it has characters
abbrev pub parts_of : List ℕ → Result (List Part) PatternError
parts_of cs = parts_from (length cs) [] cs
