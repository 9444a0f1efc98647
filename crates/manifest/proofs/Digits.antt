-- The numbers of digits only grow with more digits.
use Rattle.std.proofs.Common.{◌≡◌, ◌+◌, ◌-◌, ◌*◌, ◌^◌, ◌<◌, ◌≤◌, ℕ, true, false, cond, not, ◌&&◌, nat_lt, List, [], ◌∷◌}
use Rattle.std.proofs.Common.{length, None, Some, refl, sym, ap, ◌∙◌, arith}
use Rattle.std.proofs.Math.Nat.{mul_assoc, mul-one, pow-zero, pow-succ'}
use Rattle.std.proofs.lemmas.Bool.{lt-ltb, ltb-true, ltb-false}
use Rattle.std.proofs.lemmas.Nat.{mul-le}
use Rattle.manifest.specs.Texts.{is_digit, digits_from, below}

-- a number is not below a limit, and so are those that more digits make of it
too_large : (most n : ℕ) → (cond (nat_lt n most) (Some n) None ≡ None) → most ≤ n
too_large most n h = elim (nat_lt n most) as (λ t. nat_lt n most ≡ t → cond t (Some n) None ≡ None → most ≤ n) [
  | true ↦ λ e h. absurd (cc)
  | false ↦ λ e h. ltb-false n most e
] refl h

stays_large : (most base n : ℕ) (bs : List ℕ) → 1 ≤ base → most ≤ n → below most (digits_from base n bs) ≡ None
stays_large most base n [] one h = elim (nat_lt n most) as (λ t. nat_lt n most ≡ t → cond t (Some n) None ≡ None) [
  | true ↦ λ e. absurd (omega (arith, ltb-true n most e, h))
  | false ↦ λ e. refl
] refl
stays_large most base n (b ∷ bs) one h =
    elim (is_digit base b) as (λ t. below most (cond t (digits_from base (n * base + (b - 48)) bs) None) ≡ None) [
      | true ↦ stays_large most base (n * base + (b - 48)) bs one (grown n base h one)
      | false ↦ refl
    ]
  where
    grown : (n base : ℕ) → most ≤ n → 1 ≤ base → most ≤ n * base + (b - 48)
    grown n base h one = omega (arith, mul-le n 1 n base (omega arith) one, h)

-- one digit more
pub digit_step : (base n b d : ℕ) (bs : List ℕ) → cond (is_digit base b) (Some (b - 48)) None ≡ Some d
    → digits_from base n (b ∷ bs) ≡ digits_from base (n * base + d) bs
digit_step base n b d bs h = elim (is_digit base b) as
    (λ t. cond t (Some (b - 48)) None ≡ Some d
    → cond t (digits_from base (n * base + (b - 48)) bs) None ≡ digits_from base (n * base + d) bs) [
      | true ↦ λ e. ap (λ (x : ℕ). digits_from base (n * base + x) bs) (some_injective e)
      | false ↦ λ e. absurd (cc)
    ] h
  where
    some_injective : {x y : ℕ} → Some x ≡ Some y → x ≡ y
    some_injective e = cc

pub ends_large : (most base n : ℕ) (bs : List ℕ) → 1 ≤ base → below most (Some n) ≡ None
    → below most (digits_from base n bs) ≡ None
ends_large most base n bs one h = stays_large most base n bs one (too_large most n h)

pub below_small : (most n : ℕ) → n < most → below most (Some n) ≡ Some n
below_small most n h = rw (lt-ltb n most h) refl

worth : (base b : ℕ) → is_digit base b ≡ true → b - 48 + 1 ≤ base
worth base b e =
    elim (nat_lt b 48) as (λ t. nat_lt b 48 ≡ t → not t && nat_lt b (48 + base) ≡ true → b - 48 + 1 ≤ base) [
      | true ↦ λ u v. absurd (cc)
      | false ↦ λ u v. omega (arith, ltb-false b 48 u, ltb-true b (48 + base) v)
    ] refl e

-- so many digits are below that power of the base
pub stays_small : (most base n : ℕ) (bs : List ℕ) → (n + 1) * base ^ length bs ≤ most
    → below most (digits_from base n bs) ≡ digits_from base n bs
stays_small most base n [] h =
    below_small most n (omega (arith, h, ap (λ (x : ℕ). (n + 1) * x) (pow-zero base) ∙ mul-one (n + 1)))
stays_small most base n (b ∷ bs) h =
    elim (is_digit base b) as (λ t. is_digit base b ≡ t
    → below most (cond t (digits_from base (n * base + (b - 48)) bs) None)
    ≡ cond t (digits_from base (n * base + (b - 48)) bs) None) [
      | true ↦ λ e. stays_small most base (n * base + (b - 48)) bs (fits e)
      | false ↦ λ e. refl
    ] refl
  where
    fits : is_digit base b ≡ true → (n * base + (b - 48) + 1) * base ^ length bs ≤ most
    fits e =
        let d : b - 48 + 1 ≤ base = worth base b e in
        let p = base ^ length bs in
        let grows : (n * base + (b - 48) + 1) * p ≤ ((n + 1) * base) * p =
        mul-le (n * base + (b - 48) + 1) p ((n + 1) * base) p (omega (arith, d)) (omega arith) in
        let same : ((n + 1) * base) * p ≡ (n + 1) * base ^ length (b ∷ bs) =
        mul_assoc (n + 1) base p ∙ ap (λ (x : ℕ). (n + 1) * x) (sym (pow-succ' base (length bs))) in
        omega (arith, grows, same, h)

pub mode_digits : (bs : List ℕ) → length bs ≡ 4 → below (2 ^ 32) (digits_from 8 0 bs) ≡ digits_from 8 0 bs
mode_digits bs four = stays_small (2 ^ 32) 8 0 bs (rw four (omega arith))
