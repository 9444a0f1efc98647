-- The text of an address as a number of C or of GNU ld.
use Rattle.std.proofs.Common.{◌≡◌, ℕ, ◌<◌, ◌≤◌, true, false, [], ◌∷◌, ◌++◌, refl, nat_lt, rules, tests, ◌/◌}
use Rattle.image_info.specs.Map.{eight_digits}
use Rattle.image_info.proofs.Lines.{address_low, address_high}
use Rattle.map_forms.specs.Header.{address_number}
use Rattle.map_forms.specs.Forms.{suffix, long_suffix}
use Rattle.map_forms.specs.declared.form.Form.{Form}

lt_is : (a b : ℕ) → a < b → nat_lt a b ≡ true
lt_is a b h = search (rules, tests)

le_is : (a b : ℕ) → b ≤ a → nat_lt a b ≡ false
le_is a b h = search (rules, tests)

-- an address below 2^32, and one from there on
pub number_low : (f : Form) (a : ℕ) → a < 4294967296
    → 48 ∷ 120 ∷ [] ++ (eight_digits a ++ suffix f) ≡ address_number f a
unfolding address_number
number_low f a h = rw (lt_is a 4294967296 h, address_low a h) refl

pub number_high : (f : Form) (a : ℕ) → 4294967296 ≤ a
    → 48 ∷ 120 ∷ [] ++ (eight_digits (a / 4294967296) ++ (eight_digits a ++ long_suffix f)) ≡ address_number f a
unfolding address_number
number_high f a h = rw (le_is a 4294967296 h, address_high a h) refl
