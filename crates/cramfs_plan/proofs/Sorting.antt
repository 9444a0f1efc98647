-- A list in which no two have one number has one order by these numbers.
use Rattle.std.proofs.Common.{◌≡◌, ◌<◌, ◌≤◌, ℕ, zero, suc, Bool, true, false, not, nat_lt, cond, List, [], ◌∷◌, ◌++◌}
use Rattle.std.proofs.Common.{filter, length, get_or, refl, ap, ap₂, ◌∙◌, subst, arith, IsPermutation}
use Rattle.std.proofs.Math.ListN.{set}
use Rattle.std.specs.List.{AllByRecursion as Every, swap}
use Rattle.std.specs.List.Sorted.{IsNonDecreasingBy}
use Rattle.std.proofs.lemmas.Bool.{lt-ltb, le-ltb, ltb-true}
use Rattle.std.proofs.lemmas.List.Elements.{recursion_from_All, All-from_recursion}
use Rattle.std.proofs.lemmas.List.Sorted.{length_permutation, All-permutation, IsPermutation-refl, IsPermutation-cons}
use Rattle.std.proofs.lemmas.List.Sorted.{IsPermutation-trans, IsPermutation-middle, IsPermutation-keeps}
use Rattle.record_forest.specs.Members.{Pairs}
use Rattle.record_forest.proofs.Lists.{every_weaker}
use Rattle.cramfs_plan.specs.Orders.{Rises}

-- a relation holds along each permutation if it is reflexive and transitive, and goes under a head and over an exchange
-- of two heads
module _ {X : Type 0} (R : List X → List X → Type 0) (same : (xs : List X) → R xs xs)
    (skip : (x : X) (xs ys : List X) → R xs ys → R (x ∷ xs) (x ∷ ys))
    (turn : (x y : X) (xs : List X) → R (x ∷ y ∷ xs) (y ∷ x ∷ xs))
    (chain : (xs ys zs : List X) → R xs ys → R ys zs → R xs zs) where
  to_head : (l : List X) (j : ℕ) (x d : X) → j < length l → R (x ∷ l) (get_or l j d ∷ set l j x)
  to_head [] j x d h = absurd (omega arith)
  to_head (y ∷ l) zero x d h = turn x y l
  to_head (y ∷ l) (suc j) x d h =
      chain _ _ _ (turn x y l) (chain _ _ _ (skip y _ _ (to_head l j x d (omega arith)))
      (turn y (get_or l j d) (set l j x)))

  exchanged : (l : List X) (i j : ℕ) (d : X) → i < length l → j < length l
      → R l (set (set l i (get_or l j d)) j (get_or l i d))
  exchanged [] i j d p q = absurd (omega arith)
  exchanged (x ∷ l) zero zero d p q = same (x ∷ l)
  exchanged (x ∷ l) zero (suc j) d p q = to_head l j x d (omega arith)
  exchanged (x ∷ l) (suc i) zero d p q = to_head l i x d (omega arith)
  exchanged (x ∷ l) (suc i) (suc j) d p q = skip x _ _ (exchanged l i j d (omega arith) (omega arith))

  swapped : (l : List X) (i j : ℕ) → i < length l → j < length l → R l (swap l i j)
  swapped [] i j p q = same []
  swapped (x ∷ l) i j p q = exchanged (x ∷ l) i j x p q

  along : (xs ys : List X) → IsPermutation xs ys → R xs ys
  along xs = IsPermutation-keeps xs (R xs) (same xs) (λ l i j p q h. chain xs l _ h (swapped l i j p q))

module _ {X : Type 0} (p : X → Bool) where
  skip_kept : (x : X) (xs ys : List X) → IsPermutation (filter p xs) (filter p ys)
      → IsPermutation (filter p (x ∷ xs)) (filter p (x ∷ ys))
  skip_kept x xs ys h = elim (p x) as
      (λ b. IsPermutation (cond b (x ∷ filter p xs) (filter p xs)) (cond b (x ∷ filter p ys) (filter p ys)))
      [ true ↦ IsPermutation-cons x _ _ h | false ↦ h ]

  turn_kept : (x y : X) (xs : List X) → IsPermutation (filter p (x ∷ y ∷ xs)) (filter p (y ∷ x ∷ xs))
  turn_kept x y xs = by (p x) (p y)
    where
      by : (a b : Bool) → IsPermutation (cond a (x ∷ cond b (y ∷ filter p xs) (filter p xs))
          (cond b (y ∷ filter p xs) (filter p xs)))
          (cond b (y ∷ cond a (x ∷ filter p xs) (filter p xs)) (cond a (x ∷ filter p xs) (filter p xs)))
      by true true = IsPermutation-middle (x ∷ []) y (filter p xs)
      by true false = IsPermutation-refl _
      by false true = IsPermutation-refl _
      by false false = IsPermutation-refl _

  pub filter-permutation : (xs ys : List X) → IsPermutation xs ys → IsPermutation (filter p xs) (filter p ys)
  filter-permutation =
      along (λ xs ys. IsPermutation (filter p xs) (filter p ys)) (λ xs. IsPermutation-refl _) skip_kept turn_kept
      (λ xs ys zs. IsPermutation-trans _ _ _)

  filter_all : (xs : List X) → Every (λ x. p x ≡ true) xs → filter p xs ≡ xs
  filter_all [] h = refl
  filter_all (x ∷ xs) h = rw (h.0, filter_all xs h.1)

  filter_none : (xs : List X) → Every (λ x. p x ≡ false) xs → filter p xs ≡ []
  filter_none [] h = refl
  filter_none (x ∷ xs) h = rw (h.0, filter_none xs h.1)

abbrev pub Ascends : {X : Type 0} → (X → ℕ) → List X → Type 0
Ascends key xs = Pairs (λ a b. key a ≤ key b) xs

module _ {X : Type 0} (key : X → ℕ) where
  abbrev above : X → X → Bool
  above x z = nat_lt (key x) (key z)

  -- a sorted list is what is not above x, and then what is
  split : (x : X) (ys : List X) → Ascends key ys → ys ≡ filter (λ z. not (above x z)) ys ++ filter (above x) ys
  split x [] up = refl
  split x (y ∷ ys) up = go (above x y) refl (split x ys up.1)
    where
      go : (b : Bool) → above x y ≡ b → ys ≡ filter (λ z. not (above x z)) ys ++ filter (above x) ys
          → y ∷ ys ≡ filter (λ z. not (above x z)) (y ∷ ys) ++ filter (above x) (y ∷ ys)
      go false e more = rw e (ap (λ l. y ∷ l) more)
      go true e more =
          let low : key x < key y = ltb-true (key x) (key y) e in
          let high = every_weaker (λ z. key y ≤ key z) (λ z. above x z ≡ true)
          (λ z h. lt-ltb (key x) (key z) (omega (arith, low, h))) ys up.0 in
          let none = filter_none (λ z. not (above x z)) ys
          (every_weaker (λ z. above x z ≡ true) (λ z. not (above x z) ≡ false) (λ z h. ap not h) ys high) in
          let all = filter_all (above x) ys high in
          rw (e, none, all) refl

  one : (x : X) (ys : List X) → IsPermutation (x ∷ []) ys → ys ≡ x ∷ []
  one x [] same = absurd (omega (arith, length_permutation _ _ same))
  one x (y ∷ []) same = ap (λ z. z ∷ [])
      (recursion_from_All (λ z. z ≡ x) (y ∷ [])
      (All-permutation (λ z. z ≡ x) (x ∷ []) (y ∷ []) same (All-from_recursion (λ z. z ≡ x) (x ∷ []) (refl, tt)))).0
  one x (y ∷ z ∷ ys) same = absurd (omega (arith, length_permutation _ _ same))

  kept_ascends : (p : X → Bool) (ys : List X) → Ascends key ys → Ascends key (filter p ys)
  kept_ascends p [] up = tt
  kept_ascends p (y ∷ ys) up =
      elim (p y) as (λ b. Ascends key (cond b (y ∷ filter p ys) (filter p ys))) [
        | true ↦ (every_kept (λ z. key y ≤ key z) ys up.0, kept_ascends p ys up.1)
        | false ↦ kept_ascends p ys up.1
      ]
    where
      every_kept : (P : X → Type 0) (zs : List X) → Every P zs → Every P (filter p zs)
      every_kept P [] h = tt
      every_kept P (z ∷ zs) h = elim (p z) as (λ b. Every P (cond b (z ∷ filter p zs) (filter p zs)))
          [ true ↦ (h.0, every_kept P zs h.1) | false ↦ every_kept P zs h.1 ]

  -- the head is all that is not above the head, and the rest follows by induction
  pub same_order : (xs ys : List X) → Rises key xs → IsPermutation xs ys → Ascends key ys → ys ≡ xs
  same_order [] [] strict same up = refl
  same_order [] (y ∷ ys) strict same up = absurd (omega (arith, length_permutation _ _ same))
  same_order (x ∷ xs) ys strict same up =
      let here : above x x ≡ false = le-ltb (key x) (key x) (omega arith) in
      let high =
      every_weaker (λ z. key x < key z) (λ z. above x z ≡ true) (λ z h. lt-ltb (key x) (key z) h) xs strict.0 in
      let low = every_weaker (λ z. above x z ≡ true) (λ z. not (above x z) ≡ false) (λ z h. ap not h) xs high in
      let first : filter (λ z. not (above x z)) (x ∷ xs) ≡ x ∷ [] =
      rw (here, filter_none (λ z. not (above x z)) xs low) refl in
      let later : filter (above x) (x ∷ xs) ≡ xs = rw (here, filter_all (above x) xs high) refl in
      let head = one x _ (subst (λ l. IsPermutation l (filter (λ z. not (above x z)) ys)) first
      (filter-permutation (λ z. not (above x z)) _ _ same)) in
      let tail = same_order xs _ strict.1
      (subst (λ l. IsPermutation l (filter (above x) ys)) later (filter-permutation (above x) _ _ same))
      (kept_ascends (above x) ys up) in
      split x ys up ∙ ap₂ ◌++◌ head tail

  -- what a sort by the number ensures
  pub ascends : (ys : List X) → IsNonDecreasingBy key ys → Ascends key ys
  ascends [] h = tt
  ascends (y ∷ ys) h = (
    first ys (λ i d k. h 0 (suc i) d (omega arith) (omega (arith, k))),
    ascends ys (λ i j d l k. h (suc i) (suc j) d (omega (arith, l)) (omega (arith, k))),
  )
    where
      first : (zs : List X) → ((i : ℕ) (d : X) → i < length zs → key y ≤ key (get_or zs i d))
          → Every (λ z. key y ≤ key z) zs
      first [] k = tt
      first (z ∷ zs) k = (k 0 z (omega arith), first zs (λ i d l. k (suc i) d (omega (arith, l))))
