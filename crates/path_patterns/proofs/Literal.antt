-- Patterns without wildcards, and stars.
use Rattle.std.proofs.Common.{◌≡◌, ℕ, Bool, true, false, List, [], ◌∷◌, ◌++◌, length, map, drop, Ok, Err, Some, None}
use Rattle.std.proofs.Common.{refl, sym, ap, ap₂, ◌∙◌, arith, append_assoc, leb, ◌≤◌}
use Rattle.std.specs.Prelude.{◌==◌, ◌&&◌, ◌||◌, Result}
use Rattle.std.proofs.lemmas.Bool.{leb-true, le-leb}
use Rattle.std.proofs.lemmas.List.{append-nil}
use Rattle.path_patterns.specs.Literals.{is_special, IsLiteral}
use Rattle.path_patterns.specs.Patterns.{any_rest, fits, has}
use Rattle.path_patterns.specs.Reading.{Part, part_of, part_at, parts_from, parts_of, range}
use Rattle.path_patterns.specs.declared.pattern.Piece.{Piece}
use Rattle.path_patterns.specs.declared.pattern.Piece.TheVariants.{Star, One}
use Rattle.path_patterns.specs.declared.pattern.Range.{Range}
use Rattle.path_patterns.specs.declared.pattern.Set.{Set}
use Rattle.path_patterns.specs.declared.reading.PatternError.{PatternError}

or_left : (a b : Bool) → (a || b) ≡ false → a ≡ false
or_left true b e = absurd (cc)
or_left false b e = refl

or_right : (a b : Bool) → (a || b) ≡ false → b ≡ false
or_right true b e = absurd (cc)
or_right false b e = e

pub and_left : (a b : Bool) → (a && b) ≡ true → a ≡ true
and_left true b e = refl
and_left false b e = absurd (cc)

pub and_right : (a b : Bool) → (a && b) ≡ true → b ≡ true
and_right true b e = e
and_right false b e = absurd (cc)

-- the part of one character
abbrev pub literal : ℕ → Part
literal c = Some (false, range c c ∷ [])

one_literal : (c : ℕ) (cs : List ℕ) → is_special c ≡ false → part_at (c ∷ cs) ≡ Ok (literal c, cs)
one_literal c cs h =
    let others : (c == 63 || (c == 91 || c == 92)) ≡ false = or_right (c == 42) _ h in
    let last : (c == 91 || c == 92) ≡ false = or_right (c == 63) _ others in
    let star : (c == 42) ≡ false = or_left _ (c == 63 || (c == 91 || c == 92)) h in
    let one : (c == 63) ≡ false = or_left _ (c == 91 || c == 92) others in
    let set : (c == 91) ≡ false = or_left _ (c == 92) last in
    let slash : (c == 92) ≡ false = or_right (c == 91) _ last in
    rw (star, one, set, slash) refl

parts_more : (cs : List ℕ) (ps : List Part) → IsLiteral cs
    → parts_from (length cs) ps cs ≡ Ok (ps ++ map literal cs)
parts_more [] ps h = ap (λ (v : List Part). Ok v) (sym (append-nil ps))
parts_more (c ∷ cs) ps h =
    rw (one_literal c cs h.0)
    (parts_more cs (ps ++ literal c ∷ []) h.1
    ∙ ap (λ (v : List Part). Ok v) (append_assoc ps (literal c ∷ []) (map literal cs)))

pub literal_parts : (text : List ℕ) → IsLiteral text → parts_of text ≡ Ok (map literal text)
literal_parts text h = parts_more text [] h

abbrev pub Read : Type 0
Read = Result (List Part) PatternError

abbrev pub parts_in : Read → List Part
parts_in (Ok ps) = ps
parts_in (Err e) = []

same_parts : (r : Read) (a b : List Part) → r ≡ Ok a → r ≡ Ok b → a ≡ b
same_parts r a b e k = sym (ap parts_in e) ∙ ap parts_in k

abbrev pub negated : List Part → Bool
negated [] = true
negated (None ∷ ps) = true
negated (Some p ∷ ps) = p.0

abbrev pub ranges : List Part → List Range
ranges [] = []
ranges (None ∷ ps) = []
ranges (Some p ∷ ps) = p.1

has_one : (s : Set) (c d : ℕ) → s.is_negated ≡ false → s.ranges.items ≡ range c c ∷ []
    → has s d ≡ ((leb c d && leb d c) || false)
has_one s c d plain is = rw (plain, is) refl

or_false : (a : Bool) → (a || false) ≡ true → a ≡ true
or_false true e = refl
or_false false e = e

pub same_here : (s : Set) (c d : ℕ) → s.is_negated ≡ false → s.ranges.items ≡ range c c ∷ [] → has s d ≡ true → d ≡ c
same_here s c d plain is fit =
    let both : (leb c d && leb d c) ≡ true = or_false _ (sym (has_one s c d plain is) ∙ fit) in
    let below : c ≤ d = leb-true c d (and_left (leb c d) (leb d c) both) in
    let above : d ≤ c = leb-true d c (and_right (leb c d) (leb d c) both) in
    omega (arith, below, above)

pub has_here : (s : Set) (c : ℕ) → s.is_negated ≡ false → s.ranges.items ≡ range c c ∷ [] → has s c ≡ true
has_here s c plain is =
    let same : leb c c ≡ true = le-leb c c (omega arith) in
    has_one s c c plain is ∙ rw same refl

fits_only : (text path : List ℕ) (ps : List Piece) → map part_of ps ≡ map literal text → fits ps path ≡ true
    → path ≡ text
fits_only [] [] [] is fit = refl
fits_only [] (d ∷ ds) [] is fit = absurd (cc)
fits_only [] path (p ∷ ps) is fit = absurd (cc)
fits_only (c ∷ cs) path [] is fit = absurd (cc)
fits_only (c ∷ cs) path (Star ∷ ps) is fit = let wrong : true ≡ false = ap negated is in absurd (cc)
fits_only (c ∷ cs) [] (One s ∷ ps) is fit = absurd (cc)
fits_only (c ∷ cs) (d ∷ ds) (One s ∷ ps) is fit =
    ap₂ (λ (x : ℕ) (xs : List ℕ). x ∷ xs)
    (same_here s c d (ap negated is) (ap ranges is) (and_left (has s d) (fits ps ds) fit))
    (fits_only cs ds ps (ap (drop 1) is) (and_right (has s d) (fits ps ds) fit))

fits_itself : (text : List ℕ) (ps : List Piece) → map part_of ps ≡ map literal text → fits ps text ≡ true
fits_itself [] [] is = refl
fits_itself [] (p ∷ ps) is = absurd (cc)
fits_itself (c ∷ cs) [] is = absurd (cc)
fits_itself (c ∷ cs) (Star ∷ ps) is = let wrong : true ≡ false = ap negated is in absurd (cc)
fits_itself (c ∷ cs) (One s ∷ ps) is =
    rw (has_here s c (ap negated is) (ap ranges is)) (fits_itself cs ps (ap (drop 1) is))

parts_are : (text : List ℕ) (ps : List Piece) → IsLiteral text → parts_of text ≡ Ok (map part_of ps)
    → map part_of ps ≡ map literal text
parts_are text ps h read = same_parts (parts_of text) _ _ read (literal_parts text h)

pub itself : (text : List ℕ) (ps : List Piece) → IsLiteral text → parts_of text ≡ Ok (map part_of ps)
    → fits ps text ≡ true
itself text ps h read = fits_itself text ps (parts_are text ps h read)

pub only : (text path : List ℕ) (ps : List Piece) → IsLiteral text → parts_of text ≡ Ok (map part_of ps)
    → fits ps path ≡ true → path ≡ text
only text path ps h read fit = fits_only text path ps (parts_are text ps h read) fit

-- ---- a star

or_true : (a b : Bool) → b ≡ true → (a || b) ≡ true
or_true true b e = refl
or_true false b e = e

here_rest : (f : List ℕ → Bool) (rest : List ℕ) → f rest ≡ true → any_rest f rest ≡ true
here_rest f [] e = e
here_rest f (c ∷ cs) e = rw e refl

pub star_any : (front rest : List ℕ) (ps : List Piece) → fits ps rest ≡ true
    → fits (Star ∷ ps) (front ++ rest) ≡ true
star_any [] rest ps e = here_rest (fits ps) rest e
star_any (c ∷ front) rest ps e = or_true (fits ps (c ∷ front ++ rest)) _ (star_any front rest ps e)

abbrev Splits : List Piece → List ℕ → Type 0
Splits ps path = (front rest : List ℕ) × (path ≡ front ++ rest) × (fits ps rest ≡ true)

pub star_only : (path : List ℕ) (ps : List Piece) → fits (Star ∷ ps) path ≡ true → Splits ps path
star_only [] ps e = ([], [], refl, e)
star_only (c ∷ cs) ps e = here (fits ps (c ∷ cs)) refl e (λ h. star_only cs ps h) where
  here : (b : Bool) → fits ps (c ∷ cs) ≡ b → (b || any_rest (fits ps) cs) ≡ true
      → (any_rest (fits ps) cs ≡ true → Splits ps cs) → Splits ps (c ∷ cs)
  here true is h behind = ([], c ∷ cs, refl, is)
  here false is h behind =
      let more = behind h in (c ∷ more.0, more.1, ap (λ (xs : List ℕ). c ∷ xs) more.2, more.3)
