-- The meaning of the numbers that are read from a record.
use Rattle.std.proofs.Common.{◌<◌, ◌≤◌, ◌≡◌, ◌+◌, ◌-◌, ◌*◌, ◌/◌, ℕ, suc, true, false, cond, eqb, List, [], ◌∷◌, length}
use Rattle.std.proofs.Common.{take, drop, refl, ap, ◌∙◌, arith}
use Rattle.std.proofs.lemmas.Bool.{ne_eqb, eq-eqb}
use Rattle.romfs_format.specs.Record.{before_zero, name_of, end_of, type_of, spec_offset_of, NameEnds}
use Rattle.romfs_format.specs.Tree.{led, root_of}

take_before_zero : (ys : List ℕ) → take (length (before_zero ys)) ys ≡ before_zero ys
take_before_zero [] = refl
take_before_zero (y ∷ ys) =
    let ih = take_before_zero ys in
    elim (eqb y 0) as (λ t. take (length (cond t [] (y ∷ before_zero ys))) (y ∷ ys) ≡ cond t [] (y ∷ before_zero ys))
    [ true ↦ refl | false ↦ ap (λ (x : List ℕ). y ∷ x) ih ]

-- a name is read at its offset
pub name_stands : (b : List ℕ) (p : ℕ) → take (length (name_of b p)) (drop (p + 16) b) ≡ name_of b p
unfolding name_of
name_stands b p = take_before_zero (drop (p + 16) b)

pub name_slice : (b : List ℕ) (p len : ℕ) → len ≡ length (before_zero (drop (p + 16) b))
    → take (p + 16 + len - (p + 16)) (drop (p + 16) b) ≡ name_of b p
unfolding name_of
name_slice b p len e =
    let n : p + 16 + len - (p + 16) ≡ length (before_zero (drop (p + 16) b)) = omega (arith, e) in
    ap (λ (x : ℕ). take x (drop (p + 16) b)) n ∙ take_before_zero (drop (p + 16) b)

pub end_is : (b : List ℕ) (p : ℕ) (name : List ℕ) → name ≡ name_of b p
    → p + 16 + (length name + 1 + 15) / 16 * 16 ≡ end_of b p
unfolding end_of
end_is b p name e = ap (λ (x : List ℕ). p + 16 + (length x + 1 + 15) / 16 * 16) e

-- one step along a hard link
pub led_more : (b : List ℕ) (n p q : ℕ) → p ≡ led n b q → type_of b p ≡ 0 → spec_offset_of b p ≡ led (suc n) b q
unfolding led
led_more b n p q e h = rw (← e, eq-eqb (type_of b p) 0 h) refl

pub led_stay : (b : List ℕ) (n p q : ℕ) → p ≡ led n b q → (type_of b p ≡ 0 → ⊥) → p ≡ led (suc n) b q
unfolding led
led_stay b n p q e h = rw (← e, ne_eqb (type_of b p) 0 h) refl

-- what the search for a name's zero says of the name
pub name_ends : (b : List ℕ) (p : ℕ)
    → (p + 16 + length (before_zero (drop (p + 16) b)) < length b) × (length (before_zero (drop (p + 16) b)) < 256)
    → NameEnds b p
unfolding name_of
name_ends b p h = h

pub name_unended : (b : List ℕ) (p : ℕ)
    → ((p + 16 + length (before_zero (drop (p + 16) b)) < length b) × (length (before_zero (drop (p + 16) b)) < 256)
    → ⊥) → NameEnds b p → ⊥
unfolding name_of
name_unended b p h = h

pub name_length : (b : List ℕ) (p n : ℕ) → n ≡ length (before_zero (drop (p + 16) b)) → n ≡ length (name_of b p)
unfolding name_of
name_length b p n e = e

pub before_length : (b : List ℕ) (p n : ℕ) → n ≡ length (name_of b p) → n ≡ length (before_zero (drop (p + 16) b))
unfolding name_of
before_length b p n e = e

pub end_length : (b : List ℕ) (p n : ℕ) → n ≡ length (name_of b p) → p + 16 + (n + 1 + 15) / 16 * 16 ≡ end_of b p
unfolding end_of
end_length b p n e = ap (λ (x : ℕ). p + 16 + (x + 1 + 15) / 16 * 16) e

-- a record does not end before it begins
pub end_after : (b : List ℕ) (p : ℕ) → p ≤ end_of b p
unfolding end_of
end_after b p = omega arith

-- the root is behind the front of the superblock
pub root_above : (b : List ℕ) (r : ℕ) → r ≡ root_of b → 0 < r
unfolding root_of
root_above b r e = omega arith
