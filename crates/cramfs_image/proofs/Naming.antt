-- The faults of a name, and the order of names.
use Rattle.std.proofs.Common.{◌≡◌, ◌≢◌, ℕ, ◌-◌, ◌<◌, ◌≤◌, true, false, eqb, List, [], ◌∷◌, ◌++◌, length, Option, Some}
use Rattle.std.proofs.Common.{refl, arith, take, drop, get_or, if◌then◌else◌}
use Rattle.std.proofs.lemmas.List.{take_rest}
use Rattle.std.proofs.lemmas.Bool.{ne_eqb, eq-eqb, lt-ltb, le-ltb}
use Rattle.record_forest.specs.declared.reference.Row.{Row}
use Rattle.record_forest.specs.Faults.{IsLeast}
use Rattle.cramfs_format.specs.declared.order.Order.{Order}
use Rattle.cramfs_format.specs.Inode.{name_of}
use Rattle.cramfs_format.specs.Tree.{precedes, IsNoDot}
use Rattle.cramfs_image.specs.Phases.{Repeats, last_name, IsUnsorted, IsNameFault, repeated, dots, unsorted}
use Rattle.cramfs_image.specs.Phases.{IsWellNamed}

module _ {o : Order} {b : List ℕ} {before : List Row} {x : Row} where
  pub least_repeated : Repeats o b before x → IsLeast (IsNameFault o b before x) 23
  least_repeated h = record {
    here = repeated refl h;
    least = λ n f. elim f [ repeated e k ↦ omega arith | dots e k ↦ omega arith | unsorted e k ↦ omega arith ];
  }

  pub least_dot : (Repeats o b before x → ⊥) → (IsNoDot o b x → ⊥) → IsLeast (IsNameFault o b before x) 24
  least_dot fresh h = record {
    here = dots refl h;
    least = λ n f. elim f [ repeated e k ↦ absurd (fresh k) | dots e k ↦ omega arith | unsorted e k ↦ omega arith ];
  }

  pub least_unsorted : (Repeats o b before x → ⊥) → IsNoDot o b x → IsUnsorted o b before x
      → IsLeast (IsNameFault o b before x) 26
  least_unsorted fresh other h = record {
    here = unsorted refl h;
    least = λ n f. elim f
        [ repeated e k ↦ absurd (fresh k) | dots e k ↦ absurd (k other) | unsorted e k ↦ omega arith ];
  }

  pub well_faultless : IsWellNamed o b before x → (n : ℕ) → IsNameFault o b before x n → ⊥
  well_faultless w n f = elim f [ repeated e k ↦ w.fresh k | dots e k ↦ k w.other | unsorted e k ↦ w.sorted k ]

-- the last name of a list, one row further
pub last_push : (o : Order) (b : List ℕ) (d : ℕ) (noted : Option (List ℕ)) (xs : List Row) (x : Row)
    → last_name o b d noted (xs ++ x ∷ [])
    ≡ (if eqb x.directory d then Some (name_of o b x.offset) else last_name o b d noted xs)
last_push o b d noted [] x = refl
last_push o b d noted (y ∷ ys) x =
    last_push o b d (if eqb y.directory d then Some (name_of o b y.offset) else noted) ys x

-- the order of two names, by their first bytes
pub none_before : (xs ys : List ℕ) → length ys ≤ 0 → precedes xs ys ≡ false
none_before xs [] h = refl
none_before xs (y ∷ ys) h = absurd (omega arith)

pub shorter_before : (xs ys : List ℕ) → 0 < length ys → length xs ≤ 0 → precedes xs ys ≡ true
shorter_before xs [] h k = absurd (omega arith)
shorter_before [] (y ∷ ys) h k = refl
shorter_before (x ∷ xs) (y ∷ ys) h k = absurd (omega arith)

pub less_before : (xs ys : List ℕ) → 0 < length ys → 0 < length xs → get_or xs 0 0 < get_or ys 0 0
    → precedes xs ys ≡ true
less_before xs [] h k l = absurd (omega arith)
less_before [] (y ∷ ys) h k l = absurd (omega arith)
less_before (x ∷ xs) (y ∷ ys) h k l = rw (lt-ltb x y l) refl

pub more_before : (xs ys : List ℕ) → 0 < length ys → 0 < length xs → get_or ys 0 0 ≤ get_or xs 0 0
    → get_or xs 0 0 ≢ get_or ys 0 0 → precedes xs ys ≡ false
more_before xs [] h k l n = absurd (omega arith)
more_before [] (y ∷ ys) h k l n = absurd (omega arith)
more_before (x ∷ xs) (y ∷ ys) h k l n = rw (le-ltb x y l, ne_eqb x y n) refl

pub same_before : (xs ys : List ℕ) → 0 < length ys → 0 < length xs → get_or ys 0 0 ≤ get_or xs 0 0
    → get_or xs 0 0 ≡ get_or ys 0 0 → precedes (take (length xs - 1) (drop 1 xs)) (take (length ys - 1) (drop 1 ys))
    ≡ precedes xs ys
same_before xs [] h k l e = absurd (omega arith)
same_before [] (y ∷ ys) h k l e = absurd (omega arith)
same_before (x ∷ xs) (y ∷ ys) h k l e =
    rw (take_rest (x ∷ xs) 1, take_rest (y ∷ ys) 1) (rw (le-ltb x y l, eq-eqb x y e) refl)
