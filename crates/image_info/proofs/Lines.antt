-- The text of an address.
use Rattle.std.proofs.Common.{◌≡◌, ℕ, ◌<◌, ◌≤◌, true, false, [], ◌∷◌, ◌++◌, refl, nat_lt, rules, tests, ◌/◌}
use Rattle.image_info.specs.Map.{eight_digits, address_text}

lt_is : (a b : ℕ) → a < b → nat_lt a b ≡ true
lt_is a b h = search (rules, tests)

le_is : (a b : ℕ) → b ≤ a → nat_lt a b ≡ false
le_is a b h = search (rules, tests)

-- an address below 2^32, and one from there on
pub address_low : (a : ℕ) → a < 4294967296 → address_text a ≡ 48 ∷ 120 ∷ [] ++ eight_digits a
unfolding address_text
address_low a h = rw (lt_is a 4294967296 h) refl

pub address_high : (a : ℕ) → 4294967296 ≤ a
    → address_text a ≡ 48 ∷ 120 ∷ [] ++ (eight_digits (a / 4294967296) ++ eight_digits a)
unfolding address_text
address_high a h = rw (le_is a 4294967296 h) refl
