-- What cannot fail holds, if a test decides it.
use Rattle.std.proofs.Common.{◌≡◌, ◌≢◌, ℕ, List, Bool, true, false, eqb, bytes_eq, ◌⊎◌, inl, inr, refl}
use Rattle.std.proofs.lemmas.Bool.{false≢true}
use Rattle.std.proofs.lemmas.Bool.Decides.{Decides-eqb}
use Rattle.std.proofs.lemmas.Slice.Eq.{bytes_eq-Decides}
use Rattle.std.specs.Bool.{Decides}

pub by_test : {P : Type 0} (v : Bool) → Decides v P → ((P → ⊥) → ⊥) → P
by_test true d h = d.0 refl
by_test false d h = absurd (h (λ k. false≢true (d.1 k)))

pub same_number : (m n : ℕ) → ((m ≢ n) → ⊥) → m ≡ n
same_number m n h = by_test (eqb m n) (Decides-eqb m n) h

pub same_list : (xs ys : List ℕ) → ((xs ≢ ys) → ⊥) → xs ≡ ys
same_list xs ys h = by_test (bytes_eq xs ys) (bytes_eq-Decides xs ys) h

either_by : {P : Type 0} (v : Bool) → Decides v P → P ⊎ (P → ⊥)
either_by true d = inl (d.0 refl)
either_by false d = inr (λ k. false≢true (d.1 k))

-- whether two lists of numbers are one
pub same_or_not : (xs ys : List ℕ) → (xs ≡ ys) ⊎ (xs ≢ ys)
same_or_not xs ys = either_by (bytes_eq xs ys) (bytes_eq-Decides xs ys)
