-- Bytes of a file that follow one another.
use Rattle.std.proofs.Common.{◌≡◌, ℕ, ◌+◌, ◌-◌, ◌<◌, ◌≤◌, true, false, List, ap, ◌∙◌, sym, refl, rules, arith, nat_lt}
use Rattle.std.proofs.Common.{tests, Option, Some, None, IsSome}
use Rattle.std.specs.Prelude.{slice_index}

lt_by : (a b : ℕ) → nat_lt a b ≡ true → a < b
lt_by a b h = search (rules, tests)

le_by : (a b : ℕ) → nat_lt a b ≡ false → b ≤ a
le_by a b h = search (rules, tests)

-- a front that goes on
pub front_more : (ps : List ℕ) (at place len add q : ℕ) → ((k : ℕ) → k < len → slice_index ps (at + k) ≡ place + k)
    → ((k : ℕ) → k < add → slice_index ps (at + len + k) ≡ q + k) → q ≡ place + len → (k : ℕ) → k < len + add
    → slice_index ps (at + k) ≡ place + k
front_more ps at place len add q r s e k l =
    elim (nat_lt k len) as (λ v. nat_lt k len ≡ v → slice_index ps (at + k) ≡ place + k) [
      | true ↦ λ t. r k (lt_by k len t)
      | false ↦ λ t.
          let b : len ≤ k = le_by k len t in
          let a : at + len + (k - len) ≡ at + k = omega arith in
          let w : k - len < add = omega arith in
          ap (slice_index ps) (sym a) ∙ (s (k - len) w ∙ omega arith)
    ] refl

pub record HasSome {A : Type 0} (o : Option A) : Type 0 where
  pub value : A
  pub is : o ≡ Some value

pub has_some : {A : Type 0} (o : Option A) → IsSome o → HasSome o
has_some None h = absurd (search rules)
has_some (Some x) h = record { value = x; is = refl }
