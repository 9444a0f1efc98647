-- The upper bits of a word.
use Rattle.std.proofs.Common.{◌≡◌, ℕ, ◌+◌, ◌-◌, ◌*◌, ◌/◌, ◌^◌, ◌<◌, ap, sym, subst, ◌∙◌, arith}
use Rattle.std.proofs.Math.Nat.{div-lt_iff_lt-mul}
use Rattle.std.proofs.lemmas.Nat.{pow-add, pow_pos}

-- without its lower bits a word is below the power of those that are left
pub upper_below : (w bits : ℕ) → bits < 32 → w < 2 ^ 32 → w / 2 ^ (32 - bits) < 2 ^ bits
upper_below w bits few h =
    let all : bits + (32 - bits) ≡ 32 = omega arith in
    let e : 2 ^ 32 ≡ 2 ^ bits * 2 ^ (32 - bits) = ap (λ (n : ℕ). 2 ^ n) (sym all) ∙ pow-add 2 bits (32 - bits) in
    (div-lt_iff_lt-mul (pow_pos (32 - bits))).1 (subst (λ (n : ℕ). w < n) e h)

pub rest_below : (w bits : ℕ) → 0 < bits → bits < 32 → w < 2 ^ 32 → w / 2 ^ bits < 2 ^ (32 - bits)
rest_below w bits some few h =
    let e : 32 - (32 - bits) ≡ bits = omega arith in
    subst (λ (n : ℕ). w / 2 ^ n < 2 ^ (32 - bits)) e (upper_below w (32 - bits) (omega arith) h)
