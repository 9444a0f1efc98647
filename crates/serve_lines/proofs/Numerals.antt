-- Which number a field spells.
use Rattle.std.proofs.Common.{◌≡◌, ◌≢◌, ℕ, ◌^◌, ◌<◌, Bool, true, false, List, Some, None, refl, sym, ap, ◌∙◌, arith}
use Rattle.std.proofs.Common.{cond, nat_lt}
use Rattle.std.specs.Prelude.{◌&&◌, decimal}
use Rattle.std.specs.Str.{bytes_eq}
use Rattle.std.specs.Str.Parse.{digits_value}
use Rattle.std.proofs.lemmas.Bool.Decides.{nat_tests}
use Rattle.std.proofs.lemmas.Slice.Eq.{bytes_eq-Decides}
use Rattle.std.proofs.lemmas.Fmt.{decimal_is_IsNumeral}
use Rattle.serve_lines.specs.Commands.{number_of}

below : (n : ℕ) → n < 2 ^ 32 → nat_lt n (2 ^ 32) ≡ true
below n h = grind (arith, nat_tests)

below_is : (n : ℕ) → nat_lt n (2 ^ 32) ≡ true → n < 2 ^ 32
below_is n h = grind (arith, nat_tests)

spelled : (n v : ℕ) (field : List ℕ) → v ≡ n → n < 2 ^ 32 → field ≡ decimal n
    → cond (bytes_eq (decimal v) field && nat_lt v (2 ^ 32)) (Some v) None ≡ Some n
spelled n v field e small is =
    let a : bytes_eq (decimal n) field ≡ true = (bytes_eq-Decides (decimal n) field).1 (sym is) in
    rw (e, a, below n small) refl

neither : (a b : Bool) (v : ℕ) → (a ≡ true → b ≡ true → ⊥) → cond (a && b) (Some v) None ≡ None
neither true true v h = absurd (h refl refl)
neither true false v h = refl
neither false b v h = refl

pub number_some : (n : ℕ) (field : List ℕ) → n < 2 ^ 32 → field ≡ decimal n → number_of field ≡ Some n
unfolding number_of
number_some n field small is =
    let v : digits_value 10 field ≡ n = ap (digits_value 10) is ∙ (decimal_is_IsNumeral n (omega arith)).1 in
    spelled n (digits_value 10 field) field v small is

pub number_none : (field : List ℕ) → ((n : ℕ) → n < 2 ^ 32 → field ≢ decimal n) → number_of field ≡ None
unfolding number_of
number_none field h =
    let v = digits_value 10 field in
    neither (bytes_eq (decimal v) field) (nat_lt v (2 ^ 32)) v
    (λ a b. h v (below_is v b) (sym ((bytes_eq-Decides (decimal v) field).0 a)))
