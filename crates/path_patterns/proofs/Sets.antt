-- Sets of characters, patterns of one character, and several patterns.
use Rattle.std.proofs.Common.{◌≡◌, ◌≤◌, ℕ, suc, Bool, true, false, List, [], ◌∷◌, map, Ok, Some}
use Rattle.std.proofs.Common.{refl, sym, ap, ◌∙◌, arith, leb, if◌then◌else◌}
use Rattle.std.specs.Prelude.{◌||◌, not}
use Rattle.std.specs.List.{Contains, list_any}
use Rattle.std.proofs.lemmas.Bool.{leb-true, true≢false}
use Rattle.path_patterns.specs.Patterns.{fits, fits_bytes, has, is_within}
use Rattle.path_patterns.specs.Reading.{Part, part_of, parts_of, range}
use Rattle.path_patterns.specs.Several.{behind_slash, fits_any}
use Rattle.path_patterns.specs.declared.pattern.Piece.{Piece}
use Rattle.path_patterns.specs.declared.pattern.Piece.TheVariants.{Star, One}
use Rattle.path_patterns.specs.declared.pattern.Range.{Range}
use Rattle.path_patterns.specs.declared.pattern.Set.{Set}
use Rattle.path_patterns.proofs.Literal.{and_left, and_right, has_here, negated, parts_in, ranges, same_here}

-- the first member, or one of the others
first_or : {X : Type 0} (f : X → Bool) (x : X) (xs : List X) (b : Bool) → f x ≡ b → (b || list_any f xs) ≡ true
    → (list_any f xs ≡ true → (y : X) × Contains xs y × (f y ≡ true))
    → (y : X) × Contains (x ∷ xs) y × (f y ≡ true)
first_or f x xs true h e others = (x, (0, omega (arith), refl), h)
first_or f x xs false h e others =
    let m = others e in
    (m.0, (suc m.1.0, (let l = m.1.1 in omega (arith, l)), m.1.2), m.2)

-- the member of a list for which a test holds
pub any_member : {X : Type 0} (f : X → Bool) (xs : List X) → list_any f xs ≡ true
    → (x : X) × Contains xs x × (f x ≡ true)
any_member f [] e = absurd (true≢false (sym e))
any_member f (x ∷ xs) e = first_or f x xs (f x) refl e (λ i. any_member f xs i)

pub set_only : (s : Set) (c : ℕ) → s.is_negated ≡ false → has s c ≡ true
    → (r : Range) × Contains s.ranges.items r × (r.first ≤ c) × (c ≤ r.last)
set_only s c n h =
    let any : list_any (is_within c) s.ranges.items ≡ true =
    sym (ap (λ (b : Bool). if b then not (list_any (is_within c) s.ranges.items)
    else list_any (is_within c) s.ranges.items) n) ∙ h in
    let m = any_member (is_within c) s.ranges.items any in (
      m.0,
      m.1,
      leb-true m.0.first c (and_left (leb m.0.first c) (leb c m.0.last) m.2),
      leb-true c m.0.last (and_right (leb m.0.first c) (leb c m.0.last) m.2),
    )

pub set_others : (s : Set) (c : ℕ) → s.is_negated ≡ true
    → ((r : Range) → Contains s.ranges.items r → r.first ≤ c → c ≤ r.last → ⊥) → has s c ≡ true
set_others s c n none =
    ap (λ (b : Bool). if b then not (list_any (is_within c) s.ranges.items)
    else list_any (is_within c) s.ranges.items) n
    ∙ by_any (list_any (is_within c) s.ranges.items) refl
  where
    by_any : (b : Bool) → list_any (is_within c) s.ranges.items ≡ b → not b ≡ true
    by_any false e = refl
    by_any true e =
        let m = any_member (is_within c) s.ranges.items e in
        absurd (none m.0 m.1 (leb-true m.0.first c (and_left (leb m.0.first c) (leb c m.0.last) m.2))
        (leb-true c m.0.last (and_right (leb m.0.first c) (leb c m.0.last) m.2)))

pub several_only : (patterns : List (List Piece)) (path : List ℕ) → fits_any patterns path ≡ true
    → (ps : List Piece) × Contains patterns ps × (fits_bytes ps (behind_slash path) ≡ true)
several_only patterns path e = any_member (λ p. fits_bytes p (behind_slash path)) patterns e

-- ---- a pattern of one part

abbrev Reads : Part → List Piece → Type 0
Reads p ps = p ∷ [] ≡ map part_of ps

-- all characters are in the set of `?`
has_any : (s : Set) (c : ℕ) → s.is_negated ≡ true → s.ranges.items ≡ [] → has s c ≡ true
has_any s c n none = rw (n, none) refl

question_any : (c : ℕ) (ps : List Piece) → Reads (Some (true, [])) ps → fits ps (c ∷ []) ≡ true
question_any c [] e = absurd (cc)
question_any c (Star ∷ ps) e = absurd (cc)
question_any c (One s ∷ []) e = rw (has_any s c (ap negated (sym e)) (ap ranges (sym e))) refl
question_any c (One s ∷ p ∷ ps) e = absurd (cc)

question_one : (path : List ℕ) (ps : List Piece) → Reads (Some (true, [])) ps → fits ps path ≡ true
    → (c : ℕ) × (path ≡ c ∷ [])
question_one path [] e f = absurd (cc)
question_one path (Star ∷ ps) e f = absurd (cc)
question_one [] (One s ∷ []) e f = absurd (true≢false (sym f))
question_one (c ∷ []) (One s ∷ []) e f = (c, refl)
question_one (c ∷ d ∷ ds) (One s ∷ []) e f = absurd (true≢false (sym (and_right (has s c) false f)))
question_one path (One s ∷ p ∷ ps) e f = absurd (cc)

escaped_itself : (c : ℕ) (ps : List Piece) → Reads (Some (false, range c c ∷ [])) ps → fits ps (c ∷ []) ≡ true
escaped_itself c [] e = absurd (cc)
escaped_itself c (Star ∷ ps) e = absurd (cc)
escaped_itself c (One s ∷ []) e = rw (has_here s c (ap negated (sym e)) (ap ranges (sym e))) refl
escaped_itself c (One s ∷ p ∷ ps) e = absurd (cc)

escaped_only : (c : ℕ) (path : List ℕ) (ps : List Piece) → Reads (Some (false, range c c ∷ [])) ps
    → fits ps path ≡ true → path ≡ c ∷ []
escaped_only c path [] e f = absurd (cc)
escaped_only c path (Star ∷ ps) e f = absurd (cc)
escaped_only c [] (One s ∷ []) e f = absurd (true≢false (sym f))
escaped_only c (d ∷ []) (One s ∷ []) e f =
    ap (λ (v : ℕ). v ∷ []) (same_here s c d (ap negated (sym e)) (ap ranges (sym e)) (and_left (has s d) true f))
escaped_only c (d ∷ x ∷ xs) (One s ∷ []) e f = absurd (true≢false (sym (and_right (has s d) false f)))
escaped_only c path (One s ∷ p ∷ ps) e f = absurd (cc)

pub question_any_read : (c : ℕ) (ps : List Piece) → parts_of (63 ∷ []) ≡ Ok (map part_of ps) → fits ps (c ∷ []) ≡ true
question_any_read c ps e = question_any c ps (ap parts_in e)

pub question_one_read : (path : List ℕ) (ps : List Piece) → parts_of (63 ∷ []) ≡ Ok (map part_of ps)
    → fits ps path ≡ true → (c : ℕ) × (path ≡ c ∷ [])
question_one_read path ps e f = question_one path ps (ap parts_in e) f

pub escaped_itself_read : (c : ℕ) (ps : List Piece) → parts_of (92 ∷ c ∷ []) ≡ Ok (map part_of ps)
    → fits ps (c ∷ []) ≡ true
escaped_itself_read c ps e = escaped_itself c ps (ap parts_in e)

pub escaped_only_read : (c : ℕ) (path : List ℕ) (ps : List Piece) → parts_of (92 ∷ c ∷ []) ≡ Ok (map part_of ps)
    → fits ps path ≡ true → path ≡ c ∷ []
escaped_only_read c path ps e f = escaped_only c path ps (ap parts_in e) f
