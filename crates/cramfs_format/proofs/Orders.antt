-- The order of names is total, and passes on.
use Rattle.std.proofs.Common.{◌≡◌, ◌≢◌, ℕ, ◌<◌, true, false, List, [], ◌∷◌, ◌⊎◌, inl, inr, refl, sym, ◌∙◌, arith}
use Rattle.std.proofs.lemmas.Bool.{false≢true, lt-ltb, le-ltb, eq-eqb}
use Rattle.std.proofs.lemmas.Bool.Decides.{eqb_tells}
use Rattle.cramfs_format.specs.Tree.{precedes}
use Rattle.cramfs_format.proofs.Lists.{lt_decides}

-- what it says of the first bytes
pub first_cases : (x y : ℕ) (xs ys : List ℕ) → precedes (x ∷ xs) (y ∷ ys) ≡ true
    → (x < y) ⊎ ((x ≡ y) × (precedes xs ys ≡ true))
first_cases x y xs ys h = elim (lt_decides x y) [
  | inl k ↦ inl k.1
  | inr k ↦ elim (eqb_tells x y) [
    | inl l ↦ inr (l.1, (rw (k.0, l.0) at h))
    | inr l ↦ let z : false ≡ true = (rw (k.0, l.0) at h) in absurd (false≢true z)
  ]
]

pub before_less : (x y : ℕ) (xs ys : List ℕ) → x < y → precedes (x ∷ xs) (y ∷ ys) ≡ true
before_less x y xs ys l = rw (lt-ltb x y l) refl

pub before_same : (x y : ℕ) (xs ys : List ℕ) → x ≡ y → precedes xs ys ≡ true → precedes (x ∷ xs) (y ∷ ys) ≡ true
before_same x y xs ys e h = rw (le-ltb x y (omega arith), eq-eqb x y e) h

pub precedes_on : (xs ys zs : List ℕ) → precedes xs ys ≡ true → precedes ys zs ≡ true → precedes xs zs ≡ true
precedes_on xs [] zs h k = absurd (false≢true h)
precedes_on xs (y ∷ ys) [] h k = absurd (false≢true k)
precedes_on [] (y ∷ ys) (z ∷ zs) h k = refl
precedes_on (x ∷ xs) (y ∷ ys) (z ∷ zs) h k = elim (first_cases x y xs ys h) [
  | inl a ↦ elim (first_cases y z ys zs k)
      [ inl c ↦ before_less x z xs zs (omega arith) | inr c ↦ let e = c.0 in before_less x z xs zs (omega arith) ]
  | inr a ↦ elim (first_cases y z ys zs k) [
    | inl c ↦ let e = a.0 in before_less x z xs zs (omega arith)
    | inr c ↦ before_same x z xs zs (a.0 ∙ c.0) (precedes_on xs ys zs a.1 c.1)
  ]
]

pub never_self : (xs : List ℕ) → precedes xs xs ≡ true → ⊥
never_self [] h = false≢true h
never_self (x ∷ xs) h = elim (first_cases x x xs xs h) [ inl a ↦ omega arith | inr a ↦ never_self xs a.1 ]

-- of two names that differ one comes first
pub one_first : (xs ys : List ℕ) → xs ≢ ys → (precedes xs ys ≡ true) ⊎ (precedes ys xs ≡ true)
one_first [] [] n = absurd (n refl)
one_first [] (y ∷ ys) n = inl refl
one_first (x ∷ xs) [] n = inr refl
one_first (x ∷ xs) (y ∷ ys) n = elim (lt_decides x y) [
  | inl k ↦ inl (before_less x y xs ys k.1)
  | inr k ↦ elim (eqb_tells x y) [
    | inl l ↦ let e = l.1 in elim (one_first xs ys (λ i. n (let z : x ∷ xs ≡ y ∷ ys = cc in z)))
        [ inl a ↦ inl (before_same x y xs ys e a) | inr a ↦ inr (before_same y x ys xs (sym e) a) ]
    | inr l ↦ let m = l.1 in let g = k.1 in inr (before_less y x ys xs (omega arith))
  ]
]
