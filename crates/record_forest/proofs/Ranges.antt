-- What is known of numbers by ranges, as ranges are taken out and added.
use Rattle.std.proofs.Common.{◌≡◌, ℕ, ◌+◌, ◌<◌, ◌≤◌, min, Some, ◌⊎◌, inl, inr, sym, subst, arith}
use Rattle.std.proofs.lemmas.Bool.{cases_lt}
use Rattle.record_forest.specs.declared.known.VerifiedRanges.{VerifiedRanges}
use Rattle.record_forest.specs.Known.{end_of, IsPartOf, AreKnown}

module _ (P : ℕ → Type 0) where
  -- fewer ranges
  pub part_known : (k l : VerifiedRanges) → AreKnown P k → IsPartOf l k → AreKnown P l
  part_known k l h p s e f n a b = h s e (p s e f) n a b

  -- one more
  pub more_known : (k l : VerifiedRanges) (from to : ℕ) → AreKnown P k
      → ((s e : ℕ) → end_of l s ≡ Some e → (end_of k s ≡ Some e) ⊎ ((s ≡ from) × (e ≡ to)))
      → ((n : ℕ) → from ≤ n → n < to → P n) → AreKnown P l
  more_known k l from to h p w s e f n a b = elim (p s e f) [
    | inl o ↦ h s e o n a b
    | inr o ↦ w n (subst (λ (v : ℕ). v ≤ n) o.0 a) (subst (λ (v : ℕ). n < v) o.1 b)
  ]

  -- up to the end of a range that was taken out, from the lesser of both starts on
  pub joined : (k : VerifiedRanges) (start next from to : ℕ) → AreKnown P k → end_of k from ≡ Some to → from ≤ next
      → next < to → ((n : ℕ) → start ≤ n → n < next → P n)
      → (n : ℕ) → min start from ≤ n → n < to → P n
  joined k start next from to h is l m w n a b = elim (cases_lt n from) [
    | inl c ↦ w n (omega arith) (omega arith)
    | inr c ↦ h from to is n c b
  ]

  -- one number further
  pub one_more : (start next : ℕ) → ((n : ℕ) → start ≤ n → n < next → P n) → P next → (n : ℕ) → start ≤ n → n < next + 1
      → P n
  one_more start next w p n a b = elim (cases_lt n next) [
    | inl c ↦ w n a c
    | inr c ↦ (let is : n ≡ next = omega arith in subst P (sym is) p)
  ]
