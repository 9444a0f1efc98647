-- Lists of the same extents leave the same bytes.
use Rattle.std.proofs.Common.{◌≡◌, ℕ, zero, suc, ◌+◌, ◌<◌, ◌≤◌, nat_lt, Bool, true, false, ◌||◌, List, [], ◌∷◌, inl}
use Rattle.std.proofs.Common.{inr, refl, sym, arith, if◌then◌else◌}
use Rattle.std.proofs.lemmas.Bool.{false≢true}
use Rattle.std.proofs.lemmas.Bool.Decides.{nat_tests}
use Rattle.std.proofs.lemmas.List.Folds.{Any-from_list_any, list_any-from_Any}
use Rattle.rom_fields.specs.declared.span.Span.{Span}
use Rattle.rom_fields.specs.Extents.{Covers}
use Rattle.record_forest.specs.Members.{Has}
use Rattle.cramfs_image.specs.Extents.{AreTheSame}
use Rattle.cramfs_image.specs.Merged.{expanded}
use Rattle.cramfs_image.proofs.Hits.{covered_in, covered_out}
use Rattle.image_info.specs.Unused.{is_in, is_used, unused}

both_ways : (x y : Bool) → (x ≡ true → y ≡ true) → (y ≡ true → x ≡ true) → x ≡ y
both_ways true y h k = sym (h refl)
both_ways false true h k = k refl
both_ways false false h k = refl

-- a byte of one list is a byte of the other
used_in : (xs ys : List Span) (p : ℕ) → AreTheSame xs ys → is_used xs p ≡ true → is_used ys p ≡ true
used_in xs ys p h e =
    let a = Any-from_list_any (is_in p) xs e in
    let c = (h a.1).0 (a.0, a.2, a.3) in
    list_any-from_Any (is_in p) ys (c.0, a.1, c.1, c.2, a.4)

same_used : (xs ys : List Span) (p : ℕ) → AreTheSame xs ys → is_used xs p ≡ is_used ys p
same_used xs ys p h =
    both_ways (is_used xs p) (is_used ys p) (used_in xs ys p h) (used_in ys xs p (λ x. ((h x).1, (h x).0)))

pub unused_same : (xs ys : List Span) (p n : ℕ) → AreTheSame xs ys → unused xs p n ≡ unused ys p n
unused_same xs ys p zero h = refl
unused_same xs ys p (suc n) h = rw (same_used xs ys p h, unused_same xs ys (suc p) n h) refl

in_range : (p a n : ℕ) → (if nat_lt p a then false else nat_lt p (a + n)) ≡ true → (a ≤ p) × (p < a + n)
in_range p a n e = below (nat_lt p a) refl e
  where
    below : (v : Bool) → nat_lt p a ≡ v → (if v then false else nat_lt p (a + n)) ≡ true → (a ≤ p) × (p < a + n)
    below true f g = absurd (false≢true g)
    below false f g = (grind (arith, nat_tests), grind (arith, nat_tests))

range_in : (p a n : ℕ) → a ≤ p → p < a + n → (if nat_lt p a then false else nat_lt p (a + n)) ≡ true
range_in p a n l m = below (nat_lt p a) refl
  where
    below : (v : Bool) → nat_lt p a ≡ v → (if v then false else nat_lt p (a + n)) ≡ true
    below true f = absurd (grind (arith, nat_tests))
    below false f = grind (arith, nat_tests)

has_first : (x : Span) (xs : List Span) (p : ℕ) (v : Bool) → is_in p x ≡ v → (v || is_used xs p) ≡ true
    → (is_used xs p ≡ true → Has (λ (z : Span). Covers z p) xs) → Has (λ (z : Span). Covers z p) (x ∷ xs)
has_first x xs p true f g more = inl (in_range p x.start x.len f)
has_first x xs p false f g more = inr (more g)

used_has : (xs : List Span) (p : ℕ) → is_used xs p ≡ true → Has (λ (z : Span). Covers z p) xs
used_has [] p e = absurd (false≢true e)
used_has (x ∷ xs) p e = has_first x xs p (is_in p x) refl e (used_has xs p)

has_used : (xs : List Span) (p : ℕ) → Has (λ (z : Span). Covers z p) xs → is_used xs p ≡ true
has_used [] p h = absurd h
has_used (x ∷ xs) p (inl c) = front (is_in p x) (is_used xs p) (range_in p x.start x.len c.0 c.1)
  where
    front : (v w : Bool) → v ≡ true → (v || w) ≡ true
    front true w e = refl
    front false w e = absurd (false≢true e)
has_used (x ∷ xs) p (inr h) = back (is_in p x) (is_used xs p) (has_used xs p h)
  where
    back : (v w : Bool) → w ≡ true → (v || w) ≡ true
    back true w e = refl
    back false w e = e

-- runs of blocks use what their blocks use
used_expanded : (xs : List Span) (p : ℕ) → is_used xs p ≡ is_used (expanded xs) p
used_expanded xs p =
    both_ways (is_used xs p) (is_used (expanded xs) p)
    (λ e. has_used (expanded xs) p (covered_in xs p (used_has xs p e)))
    (λ e. has_used xs p (covered_out xs p (used_has (expanded xs) p e)))

pub unused_expanded : (xs : List Span) (p n : ℕ) → unused xs p n ≡ unused (expanded xs) p n
unused_expanded xs p zero = refl
unused_expanded xs p (suc n) = rw (used_expanded xs p, unused_expanded xs (suc p) n) refl
