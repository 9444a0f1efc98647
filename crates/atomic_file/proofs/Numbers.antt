-- Tests of names and of the numbers of files, and what they choose.
use Rattle.std.proofs.Common.{◌≡◌, ◌≢◌, ◌⊎◌, inl, inr, ℕ, Bool, true, false, cond, refl, arith}
use Rattle.std.specs.Prelude.{nat_eq}
use Rattle.std.proofs.lemmas.Bool.Decides.{nat_tests}

pub picks_first : {A : Type 0} (b : Bool) (x y : A) → b ≡ true → cond b x y ≡ x
picks_first true x y is = refl
picks_first false x y is = absurd (cc)

pub picks_second : {A : Type 0} (b : Bool) (x y : A) → b ≡ false → cond b x y ≡ y
picks_second true x y is = absurd (cc)
picks_second false x y is = refl

pub at_same : {A : Type 0} (n m : ℕ) (x y : A) → n ≡ m → cond (nat_eq n m) x y ≡ x
at_same n m x y same = picks_first (nat_eq n m) x y (grind (arith, nat_tests))

pub at_name : {A : Type 0} (n : ℕ) (x y : A) → cond (nat_eq n n) x y ≡ x
at_name n x y = at_same n n x y refl

pub at_other : {A : Type 0} (n m : ℕ) (x y : A) → n ≢ m → cond (nat_eq n m) x y ≡ y
at_other n m x y other = picks_second (nat_eq n m) x y (grind (arith, nat_tests))

by_test : (n m : ℕ) (b : Bool) → nat_eq n m ≡ b → (n ≡ m) ⊎ (n ≢ m)
by_test n m true is = inl (grind (arith, nat_tests))
by_test n m false is = inr (λ same. grind (arith, nat_tests))

pub same_or_other : (n m : ℕ) → (n ≡ m) ⊎ (n ≢ m)
same_or_other n m = by_test n m (nat_eq n m) refl
