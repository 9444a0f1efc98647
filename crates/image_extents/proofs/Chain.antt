-- Extents of which each has the range of the one before it, or begins where that ends or after it.
use Rattle.std.proofs.Common.{◌≡◌, ◌≤◌, ◌<◌, ℕ, zero, suc, ◌+◌, ◌-◌, List, [], ◌∷◌, length, get_or, refl, sym, subst}
use Rattle.std.proofs.Common.{◌∙◌, arith}
use Rattle.std.proofs.Common.{inl, inr, ◌⊎◌}
use Rattle.std.proofs.lemmas.Bool.{cases_lt}
use Rattle.image_extents.specs.declared.extent.Extent.{Extent}
use Rattle.image_extents.specs.Apart.{Covers, AreApart, Follows}

abbrev Apart : Extent → Extent → Type 0
Apart x y = ((x.start ≡ y.start) × (x.len ≡ y.len)) ⊎ (x.start + x.len ≤ y.start)

join : (x y z : Extent) → Apart x y → Follows y z → Apart x z
join x y z (inl s) (inl f) = inl (s.0 ∙ sym f.0, s.1 ∙ sym f.1)
join x y z (inl s) (inr f) = let a = s.0 in let b = s.1 in inr (omega (arith, a, b, f))
join x y z (inr s) (inl f) = let a = f.0 in inr (omega (arith, s, a))
join x y z (inr s) (inr f) = inr (omega (arith, s, f))

pub any_of : (ys : List Extent) (j : ℕ) (a b : Extent) → j < length ys → get_or ys j a ≡ get_or ys j b
any_of [] j a b m = absurd (omega (arith, m))
any_of (y ∷ ys) zero a b m = refl
any_of (y ∷ ys) (suc j) a b m = any_of ys j a b (omega (arith, m))

-- each extent of the list follows the one before it, up to the n-th
abbrev pub Chained : List Extent → ℕ → Type 0
Chained xs n = (k : ℕ) (d : Extent) → k + 1 < n → Follows (get_or xs k d) (get_or xs (k + 1) d)

pub chained_more : (xs : List Extent) (i : ℕ) (e : Extent) → 1 ≤ i → i < length xs → Chained xs i
    → Follows (get_or xs (i - 1) e) (get_or xs i e) → Chained xs (i + 1)
chained_more xs i e one l h f = λ k d lt. elim (cases_lt (k + 1) i) [
  | inl m ↦ h k d m
  | inr m ↦
      let z : k + 1 ≡ i = omega (arith, lt, m) in
      let y : i - 1 ≡ k = omega (arith, z) in
      let f1 : Follows (get_or xs k e) (get_or xs (k + 1) e) =
      subst (λ (v : ℕ). Follows (get_or xs k e) (get_or xs v e)) (sym z)
      (subst (λ (v : ℕ). Follows (get_or xs v e) (get_or xs i e)) y f) in
      subst (λ (v : Extent). Follows v (get_or xs (k + 1) d)) (any_of xs k e d (omega (arith, l, z)))
      (subst (λ (v : Extent). Follows (get_or xs k e) v) (any_of xs (k + 1) e d (omega (arith, l, z))) f1)
]

reach : (xs : List Extent) → Chained xs (length xs) → (a n : ℕ) (d : Extent) → a + n < length xs
    → Apart (get_or xs a d) (get_or xs (a + n) d)
reach xs h a zero d l =
    let z : a ≡ a + 0 = omega arith in
    subst (λ (v : ℕ). Apart (get_or xs a d) (get_or xs v d)) z (inl (refl, refl))
reach xs h a (suc n) d l =
    let z : a + n + 1 ≡ a + suc n = omega arith in
    subst (λ (v : ℕ). Apart (get_or xs a d) (get_or xs v d)) z
    (join (get_or xs a d) (get_or xs (a + n) d) (get_or xs (a + n + 1) d) (reach xs h a n d (omega (arith, l)))
    (h (a + n) d (omega (arith, l))))

finish : (x y : Extent) (p : ℕ) → Apart x y → Covers x p → Covers y p → (x.start ≡ y.start) × (x.len ≡ y.len)
finish x y p (inl s) cx cy = s
finish x y p (inr l) cx cy = let a = cx.1 in let b = cy.0 in absurd (omega (arith, l, a, b))

one_way : (xs : List Extent) → Chained xs (length xs) → (x y : Extent) (k m : ℕ) → k ≤ m → m < length xs
    → get_or xs k x ≡ x → get_or xs m y ≡ y → Apart x y
one_way xs h x y k m le l ex ey =
    let z : k + (m - k) ≡ m = omega (arith, le) in
    let r : Apart (get_or xs k x) (get_or xs m x) =
    subst (λ (v : ℕ). Apart (get_or xs k x) (get_or xs v x)) z (reach xs h k (m - k) x (omega (arith, le, l))) in
    let s : Apart x (get_or xs m x) = subst (λ (v : Extent). Apart v (get_or xs m x)) ex r in
    subst (λ (v : Extent). Apart x v) (any_of xs m x y l ∙ ey) s

pub chained_apart : (xs : List Extent) → Chained xs (length xs) → AreApart xs
chained_apart xs h x y p cx cy vx vy = elim (cases_lt cx.0 cy.0) [
  | inl m ↦ finish x y p (one_way xs h x y cx.0 cy.0 (omega (arith, m)) cy.1 cx.2 cy.2) vx vy
  | inr m ↦ let s = finish y x p (one_way xs h y x cy.0 cx.0 m cx.1 cy.2 cx.2) vy vx in (sym s.0, sym s.1)
]
