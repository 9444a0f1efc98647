-- The meaning of the fields of an inode, by cases.
use Rattle.std.proofs.Common.{◌≡◌, ◌≢◌, ℕ, ◌+◌, ◌<◌, ◌≤◌, true, false, List, ◌⊎◌, inl, inr, refl, arith}
use Rattle.std.proofs.lemmas.Bool.{lt-ltb, le-ltb, cases_lt, ne_eqb, eq-eqb}
use Rattle.std.proofs.lemmas.Bool.Decides.{eqb_tells}
use Rattle.std.specs.Prelude.{nat_lt}
use Rattle.cramfs_format.specs.declared.order.Order.{Order}
use Rattle.cramfs_format.specs.Inode.{type_of, offset_of, size_of, end_of, list_start, list_end}

-- a test with what it says
pub lt_decides : (a b : ℕ) → ((nat_lt a b ≡ true) × (a < b)) ⊎ ((nat_lt a b ≡ false) × (b ≤ a))
lt_decides a b = elim (cases_lt a b) [ inl h ↦ inl (lt-ltb a b h, h) | inr h ↦ inr (le-ltb a b h, h) ]

-- a record ends at least 12 bytes on
pub end_after : (o : Order) (b : List ℕ) (p : ℕ) → p + 12 ≤ end_of o b p
unfolding end_of
end_after o b p = omega arith

-- only a directory has a list
pub directory_list : (o : Order) (b : List ℕ) (p : ℕ) → type_of o b p ≡ 4
    → list_end o b p ≡ list_start o b p + size_of o b p
unfolding list_end list_start
directory_list o b p h = rw (eq-eqb (type_of o b p) 4 h) refl

pub other_list : (o : Order) (b : List ℕ) (p : ℕ) → type_of o b p ≢ 4 → list_end o b p ≡ 0
unfolding list_end
other_list o b p h = rw (ne_eqb (type_of o b p) 4 h) refl

pub in_list : (o : Order) (b : List ℕ) (p q : ℕ) → q < list_end o b p
    → (type_of o b p ≡ 4) × (list_end o b p ≡ list_start o b p + size_of o b p)
in_list o b p q h = elim (eqb_tells (type_of o b p) 4) [
  | inl i ↦ (i.1, directory_list o b p i.1)
  | inr i ↦ let z = other_list o b p i.1 in absurd (omega arith)
]

pub start_is : (o : Order) (b : List ℕ) (p : ℕ) → list_start o b p ≡ offset_of o b p
unfolding list_start
start_is o b p = refl
