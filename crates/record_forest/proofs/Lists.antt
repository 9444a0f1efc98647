-- Facts of the members of a list, by recursion.
use Rattle.std.proofs.Common.{◌≡◌, ◌≢◌, ◌≤◌, ℕ, map, zero, suc, List, [], ◌∷◌, ◌++◌, length, ◌⊎◌, inl, inr, refl, sym}
use Rattle.std.proofs.Common.{ap, subst, arith, Some}
use Rattle.std.proofs.lemmas.List.Elements.{recursion_from_All, All-from_recursion}
use Rattle.std.specs.List.{AllByRecursion as Every, AllPairs}
use Rattle.record_forest.specs.Members.{Has, Pairs}

module _ {X : Type 0} (P : X → Type 0) where
  pub every_join : (xs ys : List X) → Every P xs → Every P ys → Every P (xs ++ ys)
  every_join [] ys h k = k
  every_join (x ∷ xs) ys h k = (h.0, every_join xs ys h.1 k)

  pub every_left : (xs ys : List X) → Every P (xs ++ ys) → Every P xs
  every_left [] ys h = tt
  every_left (x ∷ xs) ys h = (h.0, every_left xs ys h.1)

  pub every_right : (xs ys : List X) → Every P (xs ++ ys) → Every P ys
  every_right [] ys h = h
  every_right (x ∷ xs) ys h = every_right xs ys h.1

  pub has_left : (xs ys : List X) → Has P xs → Has P (xs ++ ys)
  has_left [] ys h = absurd h
  has_left (x ∷ xs) ys (inl h) = inl h
  has_left (x ∷ xs) ys (inr h) = inr (has_left xs ys h)

  pub has_right : (xs ys : List X) → Has P ys → Has P (xs ++ ys)
  has_right [] ys h = h
  has_right (x ∷ xs) ys h = inr (has_right xs ys h)

  pub has_cases : (xs ys : List X) → Has P (xs ++ ys) → Has P xs ⊎ Has P ys
  has_cases [] ys h = inr h
  has_cases (x ∷ xs) ys (inl h) = inl (inl h)
  has_cases (x ∷ xs) ys (inr h) = elim (has_cases xs ys h) [ inl k ↦ inl (inr k) | inr k ↦ inr k ]

pub every_weaker : {X : Type 0} (P Q : X → Type 0) → ((x : X) → P x → Q x) → (xs : List X) → Every P xs → Every Q xs
every_weaker P Q f [] h = tt
every_weaker P Q f (x ∷ xs) h = (f x h.0, every_weaker P Q f xs h.1)

pub has_weaker : {X : Type 0} (P Q : X → Type 0) → ((x : X) → P x → Q x) → (xs : List X) → Has P xs → Has Q xs
has_weaker P Q f [] h = absurd h
has_weaker P Q f (x ∷ xs) (inl h) = inl (f x h)
has_weaker P Q f (x ∷ xs) (inr h) = inr (has_weaker P Q f xs h)

-- a member of which both hold
pub has_every : {X : Type 0} (P Q : X → Type 0) → (xs : List X) → Every P xs → Has Q xs → (x : X) × P x × Q x
has_every P Q [] h k = absurd k
has_every P Q (x ∷ xs) h (inl k) = (x, h.0, k)
has_every P Q (x ∷ xs) h (inr k) = has_every P Q xs h.1 k

module _ {X : Type 0} (R : X → X → Type 0) where
  pub pairs_join : (xs ys : List X) → Pairs R xs → Pairs R ys → Every (λ x. Every (R x) ys) xs → Pairs R (xs ++ ys)
  pairs_join [] ys h k c = k
  pairs_join (x ∷ xs) ys h k c = (every_join (R x) xs ys h.0 c.0, pairs_join xs ys h.1 k c.1)

  pub pairs_left : (xs ys : List X) → Pairs R (xs ++ ys) → Pairs R xs
  pairs_left [] ys h = tt
  pairs_left (x ∷ xs) ys h = (every_left (R x) xs ys h.0, pairs_left xs ys h.1)

  pub pairs_right : (xs ys : List X) → Pairs R (xs ++ ys) → Pairs R ys
  pairs_right [] ys h = h
  pairs_right (x ∷ xs) ys h = pairs_right xs ys h.1

  pub pairs_cross : (xs ys : List X) → Pairs R (xs ++ ys) → Every (λ x. Every (R x) ys) xs
  pairs_cross [] ys h = tt
  pairs_cross (x ∷ xs) ys h = (every_right (R x) xs ys h.0, pairs_cross xs ys h.1)

pub every_both : {X : Type 0} (P Q : X → Type 0) → (xs : List X) → Every P xs → Every Q xs → Every (λ x. P x × Q x) xs
every_both P Q [] h k = tt
every_both P Q (x ∷ xs) h k = ((h.0, k.0), every_both P Q xs h.1 k.1)

-- two members, which are one or are apart
pub pairs_pick : {X : Type 0} (R : X → X → Type 0) (P Q : X → Type 0) → (xs : List X) → Pairs R xs → Has P xs → Has Q xs
    → ((x : X) × P x × Q x) ⊎ ((x : X) × (y : X) × P x × Q y × (R x y ⊎ R y x))
pairs_pick R P Q [] h p q = absurd p
pairs_pick R P Q (x ∷ xs) h (inl p) (inl q) = inl (x, p, q)
pairs_pick R P Q (x ∷ xs) h (inl p) (inr q) = let y = has_every (R x) Q xs h.0 q in inr (x, y.0, p, y.2, inl y.1)
pairs_pick R P Q (x ∷ xs) h (inr p) (inl q) = let y = has_every (R x) P xs h.0 p in inr (y.0, x, y.2, q, inr y.1)
pairs_pick R P Q (x ∷ xs) h (inr p) (inr q) = pairs_pick R P Q xs h.1 p q

-- one more at the end
pub pairs_push : {X : Type 0} (R : X → X → Type 0) (xs : List X) (y : X) → Pairs R xs → Every (λ x. R x y) xs
    → Pairs R (xs ++ y ∷ [])
pairs_push R [] y h k = (tt, tt)
pairs_push R (x ∷ xs) y h k = (every_join (R x) xs (y ∷ []) h.0 (k.0, tt), pairs_push R xs y h.1 k.1)

pub pairs_weaker : {X : Type 0} (R S : X → X → Type 0) → ((x y : X) → R x y → S x y) → (xs : List X) → Pairs R xs
    → Pairs S xs
pairs_weaker R S f [] h = tt
pairs_weaker R S f (x ∷ xs) h = (every_weaker (R x) (S x) (f x) xs h.0, pairs_weaker R S f xs h.1)

pub has_both : {X : Type 0} (P Q : X → Type 0) → (xs : List X) → Every P xs → Has Q xs → Has (λ x. P x × Q x) xs
has_both P Q [] h k = absurd k
has_both P Q (x ∷ xs) h (inl k) = inl (h.0, k)
has_both P Q (x ∷ xs) h (inr k) = inr (has_both P Q xs h.1 k)

-- each of xs has a member of ys, no two the same: there are no more of them
module _ {X Y : Type 0} (M : X → Y → Type 0) where
  pub taken : (x : X) (ys : List Y) → Has (M x) ys
      → (y : Y) × (rest : List Y) × M x y × (length ys ≡ suc (length rest))
      × ((Q : Y → Type 0) → Has Q ys → (Q y → ⊥) → Has Q rest)
  taken x [] h = absurd h
  taken x (y ∷ ys) (inl m) = (y, ys, m, refl, λ Q q n. elim q [ inl k ↦ absurd (n k) | inr k ↦ k ])
  taken x (y ∷ ys) (inr m) =
      let t = taken x ys m in
      (t.0, y ∷ t.1, t.2, ap suc t.3, λ Q q n. elim q [ inl k ↦ inl k | inr k ↦ inr (t.4 Q k n) ])

  pub pigeon : (xs : List X) (ys : List Y) → Pairs (λ x x'. (y : Y) → M x y → M x' y → ⊥) xs
      → Every (λ x. Has (M x) ys) xs → length xs ≤ length ys
  pigeon [] ys p e = omega arith
  pigeon (x ∷ xs) ys p e =
      let t = taken x ys e.0 in
      let apart = every_both (λ x'. (y : Y) → M x y → M x' y → ⊥) (λ x'. Has (M x') ys) xs p.0 e.1 in
      let left = every_weaker (λ x'. ((y : Y) → M x y → M x' y → ⊥) × Has (M x') ys) (λ x'. Has (M x') t.1)
      (λ x' k. t.4 (M x') k.1 (λ m. k.0 t.0 t.2 m)) xs apart in
      let ih = pigeon xs t.1 p.1 left in
      let size = t.3 in
      omega arith

pub every_map : {X Y : Type 0} (f : X → Y) (P : Y → Type 0) → (xs : List X) → Every (λ x. P (f x)) xs
    → Every P (map f xs)
every_map f P [] h = tt
every_map f P (x ∷ xs) h = (h.0, every_map f P xs h.1)

pub pairs_map : {X Y : Type 0} (f : X → Y) (R : Y → Y → Type 0) → (xs : List X) → Pairs (λ x y. R (f x) (f y)) xs
    → Pairs R (map f xs)
pairs_map f R [] h = tt
pairs_map f R (x ∷ xs) h = (every_map f (R (f x)) xs h.0, pairs_map f R xs h.1)

-- of each two of which P holds
pub pairs_of : {X : Type 0} (P : X → Type 0) (R S : X → X → Type 0) → ((x y : X) → P x → P y → R x y → S x y)
    → (xs : List X) → Every P xs → Pairs R xs → Pairs S xs
pairs_of P R S f [] e p = tt
pairs_of P R S f (x ∷ xs) e p = (
  every_weaker (λ y. P y × R x y) (S x) (λ y k. f x y e.0 k.0 k.1) xs
      (every_both P (R x) xs e.1 p.0),
  pairs_of P R S f xs e.1 p.1,
)

-- a member is one of which it holds
pub has_of : {X : Type 0} (P : X → Type 0) → (xs : List X) (x : X) → Has (λ y. y ≡ x) xs → Every P xs → P x
has_of P xs x h k = let y = has_every P (λ y. y ≡ x) xs k h in subst P y.2 y.1

-- what holds of each member
pub every_of : {X : Type 0} (P : X → Type 0) → (xs : List X) → ((x : X) → Has (λ y. y ≡ x) xs → P x) → Every P xs
every_of P [] f = tt
every_of P (x ∷ xs) f = (f x (inl refl), every_of P xs (λ y h. f y (inr h)))

pub every_all : {X : Type 0} (P : X → Type 0) → ((x : X) → P x) → (xs : List X) → Every P xs
every_all P f [] = tt
every_all P f (x ∷ xs) = (f x, every_all P f xs)

-- two that are described alike are one
pub same_some : {p q : ℕ} → Some p ≡ Some q → p ≡ q
same_some e = cc

-- one more among them
pub every_put : {X : Type 0} (P : X → Type 0) → (xs ys : List X) (x : X) → Every P (xs ++ ys) → P x
    → Every P (xs ++ x ∷ ys)
every_put P xs ys x h k = every_join P xs (x ∷ ys) (every_left P xs ys h) (k, every_right P xs ys h)

pub has_put : {X : Type 0} (P : X → Type 0) → (xs ys : List X) (x : X) → Has P (xs ++ ys) → Has P (xs ++ x ∷ ys)
has_put P xs ys x h =
    elim (has_cases P xs ys h) [ inl k ↦ has_left P xs (x ∷ ys) k | inr k ↦ has_right P xs (x ∷ ys) (inr k) ]

pub pairs_put : {X : Type 0} (xs ys : List X) (x : X) → Pairs (λ y z. y ≢ z) (xs ++ ys) → Every (λ y. x ≢ y) (xs ++ ys)
    → Pairs (λ y z. y ≢ z) (xs ++ x ∷ ys)
pairs_put xs ys x h k =
    pairs_join (λ y z. y ≢ z) xs (x ∷ ys) (pairs_left (λ y z. y ≢ z) xs ys h)
    (every_right (λ y. x ≢ y) xs ys k, pairs_right (λ y z. y ≢ z) xs ys h)
    (every_weaker (λ y. (x ≢ y) × Every (λ z. y ≢ z) ys) (λ y. Every (λ z. y ≢ z) (x ∷ ys))
    (λ y n. ((λ e. n.0 (sym e)), n.1)) xs
    (every_both (λ y. x ≢ y) (λ y. Every (λ z. y ≢ z) ys) xs (every_left (λ y. x ≢ y) xs ys k)
    (pairs_cross (λ y z. y ≢ z) xs ys h)))

-- each two members, which are one or are apart
pub pairs_from : {X : Type 0} (R : X → X → Type 0) → (xs : List X) → AllPairs R xs → Pairs R xs
pairs_from R [] h = tt
pairs_from R (x ∷ xs) h = (
  recursion_from_All (R x) xs (λ k d l. h 0 (suc k) d (omega arith) (omega arith)),
  pairs_from R xs (λ i j d l m. h (suc i) (suc j) d (omega arith) (omega arith)),
)

pub pairs_to : {X : Type 0} (R : X → X → Type 0) → (xs : List X) → Pairs R xs → AllPairs R xs
pairs_to R [] h i j d l m = absurd (omega arith)
pairs_to R (x ∷ xs) h zero zero d l m = absurd (omega arith)
pairs_to R (x ∷ xs) h zero (suc j) d l m = All-from_recursion (R x) xs h.0 j d (omega arith)
pairs_to R (x ∷ xs) h (suc i) zero d l m = absurd (omega arith)
pairs_to R (x ∷ xs) h (suc i) (suc j) d l m = pairs_to R xs h.1 i j d (omega arith) (omega arith)
