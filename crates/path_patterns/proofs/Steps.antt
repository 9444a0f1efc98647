-- The reading of a pattern, one step further.
use Rattle.std.proofs.Common.{◌≡◌, ℕ, suc, ◌+◌, ◌-◌, ◌<◌, true, false, List, [], ◌∷◌, ◌++◌, drop, Ok}
use Rattle.std.proofs.Common.{refl, arith}
use Rattle.std.specs.Prelude.{◌&&◌, not}
use Rattle.path_patterns.specs.Reading.{Part, and_then, begins, is_nothing, part_at, parts_from, range_at, ranges_from}
use Rattle.path_patterns.specs.declared.pattern.Range.{Range}

one_more : (n i : ℕ) → i < n → n - i ≡ suc (n - (i + 1))
one_more n i h = omega (arith, h)

pub ranges_end : (n i : ℕ) (rs : List Range) (cs : List ℕ) → i < n → (begins 93 cs && not (is_nothing rs)) ≡ true
    → ranges_from (n - i) rs cs ≡ Ok (rs, drop 1 cs)
ranges_end n i rs cs h e = rw (one_more n i h, e) refl

pub ranges_more : (n i : ℕ) (rs : List Range) (cs : List ℕ) → i < n → (begins 93 cs && not (is_nothing rs)) ≡ false
    → ranges_from (n - i) rs cs ≡ and_then (range_at cs) (λ p. ranges_from (n - (i + 1)) (rs ++ p.0 ∷ []) p.1)
ranges_more n i rs cs h e = rw (one_more n i h, e) refl

pub parts_end : (n i : ℕ) (ps : List Part) (cs : List ℕ) → i < n → is_nothing cs ≡ true
    → parts_from (n - i) ps cs ≡ Ok ps
parts_end n i ps cs h e = rw (one_more n i h, e) refl

pub parts_more : (n i : ℕ) (ps : List Part) (cs : List ℕ) → i < n → is_nothing cs ≡ false
    → parts_from (n - i) ps cs ≡ and_then (part_at cs) (λ p. parts_from (n - (i + 1)) (ps ++ p.0 ∷ []) p.1)
parts_more n i ps cs h e = rw (one_more n i h, e) refl
