-- The order of ways: that of names, if these have no zero byte.
use Rattle.std.proofs.Common.{◌≡◌, ◌≢◌, ℕ, Bool, true, false, inl, inr, List, [], ◌∷◌, ◌++◌, refl, arith}
use Rattle.std.specs.List.{AllByRecursion as Every}
use Rattle.cramfs_format.specs.Tree.{precedes}
use Rattle.cramfs_format.proofs.Orders.{first_cases, before_less, before_same, precedes_on, never_self}

-- no zero byte
abbrev pub HasNoZero : List ℕ → Type 0
HasNoZero name = Every (λ x. x ≢ 0) name

-- nothing, or a zero byte and more
pub data IsTail : List ℕ → Type 0 where
  ends : IsTail []
  goes_on : (r : List ℕ) → IsTail (0 ∷ r)

not_both : (xs ys : List ℕ) (b : Bool) → precedes ys xs ≡ b → precedes xs ys ≡ true → b ≡ false
not_both xs ys true e h = absurd (never_self xs (precedes_on xs ys xs h e))
not_both xs ys false e h = refl

-- not the other way round
pub not_back : (xs ys : List ℕ) → precedes xs ys ≡ true → precedes ys xs ≡ false
not_back xs ys h = let e = not_both xs ys (precedes ys xs) refl h in e

-- behind the same bytes
pub behind : (k xs ys : List ℕ) → precedes xs ys ≡ true → precedes (k ++ xs) (k ++ ys) ≡ true
behind [] xs ys h = h
behind (x ∷ k) xs ys h = before_same x x (k ++ xs) (k ++ ys) refl (behind k xs ys h)

zero_first : {r : List ℕ} (y : ℕ) (b : List ℕ) → IsTail r → y ≢ 0 → precedes r (y ∷ b) ≡ true
zero_first y b ends n = refl
zero_first y b (goes_on q) n = before_less 0 y q b (omega (arith, n))

-- a name before another, with what follows them
pub in_front : (a b r s : List ℕ) → IsTail r → HasNoZero b → precedes a b ≡ true → precedes (a ++ r) (b ++ s) ≡ true
in_front a [] r s t z h = absurd (cc)
in_front [] (y ∷ b) r s t z h = zero_first y (b ++ s) t z.0
in_front (x ∷ a) (y ∷ b) r s t z h = elim (first_cases x y a b h) [
  | inl l ↦ before_less x y (a ++ r) (b ++ s) l
  | inr e ↦ before_same x y (a ++ r) (b ++ s) e.0 (in_front a b r s t z.1 e.1)
]

-- what goes on from something comes behind it
pub longer : (a : List ℕ) (x : ℕ) (r : List ℕ) → precedes a (a ++ x ∷ r) ≡ true
longer [] x r = refl
longer (y ∷ a) x r = before_same y y a (a ++ x ∷ r) refl (longer a x r)

-- the ways to two names of one list, and to what lies below them
pub ways_rise : (k a b r s : List ℕ) → IsTail r → HasNoZero b → precedes a b ≡ true
    → precedes (k ++ 0 ∷ (a ++ r)) (k ++ 0 ∷ (b ++ s)) ≡ true
ways_rise k a b r s t z h =
    behind k (0 ∷ (a ++ r)) (0 ∷ (b ++ s)) (before_same 0 0 (a ++ r) (b ++ s) refl (in_front a b r s t z h))
