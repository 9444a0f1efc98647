-- The order in which names are put, which is std's, and that of the cramfs format are one.
use Rattle.std.proofs.Common.{◌≡◌, ℕ, true, false, eqb, cond, if◌then◌else◌, List, [], ◌∷◌, refl, nat_cmp, Less, Equal}
use Rattle.std.proofs.Common.{Greater}
use Rattle.std.specs.Prelude.{nat_lt}
use Rattle.std.specs.Ordering.{is_lt, ordering_then}
use Rattle.std.specs.Cmp.Lexicographic.{slice_cmp}
use Rattle.cramfs_format.specs.Tree.{precedes}
use Rattle.manifest_tree.specs.Tree.{is_before}

pub same_order : (a b : List ℕ) → is_before a b ≡ precedes a b
same_order [] [] = refl
same_order [] (y ∷ ys) = refl
same_order (x ∷ xs) [] = refl
same_order (x ∷ xs) (y ∷ ys) =
    elim (nat_lt x y) as (λ t. is_lt (ordering_then (cond t Less (cond (eqb x y) Equal Greater))
    (slice_cmp nat_cmp xs ys)) ≡ (if t then true else (if eqb x y then precedes xs ys else false))) [
      | true ↦ refl
      | false ↦ elim (eqb x y) as (λ t. is_lt (ordering_then (cond t Equal Greater) (slice_cmp nat_cmp xs ys))
          ≡ (if t then precedes xs ys else false)) [ true ↦ same_order xs ys | false ↦ refl ]
    ]
