-- The least faults of one record.
use Rattle.std.proofs.Common.{length, ◌≡◌, ℕ, ◌+◌, ◌*◌, ◌<◌, ◌≤◌, true, false, List, Option, None, Some, ◌⊎◌, inl, inr}
use Rattle.std.proofs.Common.{refl, sym, ap, subst, ◌∙◌, arith}
use Rattle.std.proofs.lemmas.Bool.{true≢false, cases_lt}
use Rattle.std.proofs.lemmas.Bool.Decides.{eqb_tells}
use Rattle.rom_fields.specs.Extents.{IsLeastOf}
use Rattle.rom_fields.specs.declared.fault.Fault.{Fault}
use Rattle.record_forest.specs.Faults.{NotAfter, IsLeastFault, IsLeastFaultOf}
use Rattle.cramfs_format.specs.Order.{word}
use Rattle.cramfs_format.specs.declared.order.Order.{Order}
use Rattle.cramfs_format.specs.Inode.{type_of, size_of, offset_of, name_of, block_start, block_len, Lies, is_kind}
use Rattle.cramfs_format.specs.Inode.{has_data, block_count, pointer_place, pointer_of, IsPlain, ListLies, TableLies}
use Rattle.cramfs_format.specs.Inode.{BlockLies, Fits, IsName, other_kind as kind_fault, link_size as link_fault}
use Rattle.cramfs_format.specs.Inode.{list_outside as list_fault, table_outside as table_fault}
use Rattle.cramfs_format.specs.Inode.{other_block as kind_of_block, block_outside as block_fault, HasEntryFault}
use Rattle.cramfs_format.specs.Inode.{past_end, bad_name as name_fault, bad_body}
use Rattle.record_forest.proofs.Noted.{least_joined}
use Rattle.cramfs_image.specs.Phases.{IsFaultAt, list_outside, table_outside, bad_name, other_kind, link_size}
use Rattle.cramfs_image.specs.Phases.{IsPointerFault, other_block, block_outside}
use Rattle.record_forest.specs.Lesser.{lesser_of_both}

module _ {o : Order} {b : List ℕ} {p : ℕ} where
  pub least_list : (ListLies o b p → ⊥) → IsLeastOf (IsFaultAt o b p) (Some 11)
  least_list n = record {
    here = list_outside refl n;
    least = λ m h. elim h [
      | list_outside e x ↦ omega arith
      | table_outside e x ↦ omega arith
      | bad_name e x ↦ omega arith
      | other_kind e x ↦ omega arith
      | link_size e x y ↦ omega arith
    ];
  }

  pub least_table : (TableLies o b p → ⊥) → IsLeastOf (IsFaultAt o b p) (Some 11)
  least_table n = record {
    here = table_outside refl n;
    least = λ m h. elim h [
      | list_outside e x ↦ omega arith
      | table_outside e x ↦ omega arith
      | bad_name e x ↦ omega arith
      | other_kind e x ↦ omega arith
      | link_size e x y ↦ omega arith
    ];
  }

  module _ (list : ListLies o b p) (table : TableLies o b p) where
    pub least_name : (IsName (name_of o b p) → ⊥) → IsLeastOf (IsFaultAt o b p) (Some 13)
    least_name n = record {
      here = bad_name refl n;
      least = λ m h. elim h [
        | list_outside e x ↦ absurd (x list)
        | table_outside e x ↦ absurd (x table)
        | bad_name e x ↦ omega arith
        | other_kind e x ↦ omega arith
        | link_size e x y ↦ omega arith
      ];
    }

    module _ (name : IsName (name_of o b p)) where
      pub least_kind : is_kind (type_of o b p) ≡ false → IsLeastOf (IsFaultAt o b p) (Some 14)
      least_kind n = record {
        here = other_kind refl n;
        least = λ m h. elim h [
          | list_outside e x ↦ absurd (x list)
          | table_outside e x ↦ absurd (x table)
          | bad_name e x ↦ absurd (x name)
          | other_kind e x ↦ omega arith
          | link_size e x y ↦ omega arith
        ];
      }

      pub least_link : is_kind (type_of o b p) ≡ true → type_of o b p ≡ 10
          → (size_of o b p ≡ 0) ⊎ (4095 < size_of o b p) → IsLeastOf (IsFaultAt o b p) (Some 15)
      least_link k t n = record {
        here = link_size refl t n;
        least = λ m h. elim h [
          | list_outside e x ↦ absurd (x list)
          | table_outside e x ↦ absurd (x table)
          | bad_name e x ↦ absurd (x name)
          | other_kind e x ↦ absurd (true≢false (sym k ∙ x))
          | link_size e x y ↦ omega arith
        ];
      }

-- the offset of the i-th pointer
pub pointer_there : (o : Order) (b : List ℕ) (p i : ℕ) → pointer_place o b p i ≡ offset_of o b p + 4 * i
unfolding pointer_place
pointer_there o b p i = refl

-- what was read at an offset is the pointer that is there
pub pointer_read : (o : Order) (b : List ℕ) (p i table pointer : ℕ) → table ≡ offset_of o b p
    → pointer ≡ word o b (table + 4 * i) → pointer ≡ pointer_of o b p i
unfolding pointer_place
pointer_read o b p i table pointer e f = f ∙ ap (λ (q : ℕ). word o b (q + 4 * i)) e

-- all pointers before the i-th are those of blocks that are there
abbrev pub ArePlain : Order → List ℕ → ℕ → ℕ → Type 0
ArePlain o b p i = (j : ℕ) → j < i → IsPlain o b (pointer_of o b p j) × BlockLies o b p j

pub plain_more : (o : Order) (b : List ℕ) (p i : ℕ) → ArePlain o b p i → IsPlain o b (pointer_of o b p i)
    → BlockLies o b p i → ArePlain o b p (i + 1)
plain_more o b p i all plain lies j l = elim (eqb_tells j i) [
  | inl e ↦ subst (λ (v : ℕ). IsPlain o b (pointer_of o b p v) × BlockLies o b p v) (sym e.1) (plain, lies)
  | inr n ↦ let m = n.1 in all j (omega arith)
]

-- whole blocks are blocks of the file, of their length or less
pub run_there : (o : Order) (b : List ℕ) (p table n : ℕ) → table ≡ offset_of o b p
    → ((j : ℕ) → j < n → IsPlain o b (word o b (table + 4 * j)) × Lies b (block_start (word o b (table + 4 * j))) 4096)
    → ArePlain o b p n
run_there o b p table n e h j l =
    let pointer : ℕ = word o b (table + 4 * j) in
    let is : pointer ≡ pointer_of o b p j = pointer_read o b p j table pointer e refl in
    let w = h j l in (
      subst (IsPlain o b) is w.0,
      λ s.
          let z = w.1 (omega arith) in
          let y : block_start (pointer_of o b p j) + 4096 ≤ length b =
          subst (λ (v : ℕ). block_start v + 4096 ≤ length b) is z.1 in
          (subst (λ (v : ℕ). 76 ≤ block_start v) is z.0, omega arith),
    )

pub none_pointed : (o : Order) (b : List ℕ) (p : ℕ) → ArePlain o b p (block_count (size_of o b p))
    → IsLeastFaultOf (IsPointerFault o b p) None
none_pointed o b p all = record {
  here = tt;
  least = λ d h. elim h [
    | other_block i e t table l n ↦ n (all i l).0
    | block_outside i e t table l k n ↦ n
        (all i l).1
  ];
}

pub none_without : (o : Order) (b : List ℕ) (p : ℕ) → (has_data (type_of o b p) ≡ true → TableLies o b p → ⊥)
    → IsLeastFaultOf (IsPointerFault o b p) None
none_without o b p none = record {
  here = tt;
  least = λ d h. elim h [ other_block i e t table l n ↦ none t table | block_outside i e t table l k n ↦ none t table ];
}

module _ (o : Order) (b : List ℕ) (p i : ℕ) (data' : has_data (type_of o b p) ≡ true) (table' : TableLies o b p)
    (within : i < block_count (size_of o b p)) (all : ArePlain o b p i) where
  place_order : (j : ℕ) (d : Fault) (number : ℕ) → i ≤ j → d.at ≡ pointer_place o b p j → (i ≡ j → number ≤ d.number)
      → NotAfter (record { number = number; at = pointer_place o b p i }) d
  place_order j d number l e same =
      let x = pointer_there o b p i in
      let y = pointer_there o b p j in
      elim (eqb_tells i j) [
        | inl k ↦ inr (ap (pointer_place o b p) k.1 ∙ sym e, same k.1)
        | inr k ↦ let n = k.1 in inl (omega arith)
      ]

  pub first_other : (IsPlain o b (pointer_of o b p i) → ⊥)
      → IsLeastFaultOf (IsPointerFault o b p) (Some (record { number = 16; at = pointer_place o b p i }))
  first_other other = record {
    here = other_block i refl data' table' within other;
    least = λ d h. elim h [
      | other_block j e t table l n ↦ elim (cases_lt j i) [
        | inl k ↦ absurd (n (all j k).0)
        | inr k ↦ place_order j d 16 k (ap (λ (v : Fault). v.at) e)
            (λ z. let w : d.number ≡ 16 = ap (λ (v : Fault). v.number) e in omega arith)
      ]
      | block_outside j e t table l plain n ↦ elim (cases_lt j i) [
        | inl k ↦ absurd (n (all j k).1)
        | inr k ↦ place_order j d 16 k (ap (λ (v : Fault). v.at) e)
            (λ z. absurd (other (subst (λ (v : ℕ). IsPlain o b (pointer_of o b p v)) (sym z) plain)))
      ]
    ];
  }

  pub first_outside : IsPlain o b (pointer_of o b p i) → (BlockLies o b p i → ⊥)
      → IsLeastFaultOf (IsPointerFault o b p) (Some (record { number = 11; at = pointer_place o b p i }))
  first_outside plain' outside = record {
    here = block_outside i refl data' table' within plain' outside;
    least = λ d h. elim h [
      | other_block j e t table l n ↦ elim (cases_lt j i) [
        | inl k ↦ absurd (n (all j k).0)
        | inr k ↦ place_order j d 11 k (ap (λ (v : Fault). v.at) e)
            (λ z. let w : d.number ≡ 16 = ap (λ (v : Fault). v.number) e in omega arith)
      ]
      | block_outside j e t table l plain n ↦ elim (cases_lt j i) [
        | inl k ↦ absurd (n (all j k).1)
        | inr k ↦ place_order j d 11 k (ap (λ (v : Fault). v.at) e)
            (λ z. let w : d.number ≡ 11 = ap (λ (v : Fault). v.number) e in omega arith)
      ]
    ];
  }

  -- the same by what was read
  pub other_there : (table pointer : ℕ) → table ≡ offset_of o b p → pointer ≡ word o b (table + 4 * i)
      → (IsPlain o b pointer → ⊥) → IsLeastFaultOf (IsPointerFault o b p)
      (Some (record { number = 16; at = table + 4 * i }))
  other_there table pointer e f n =
      let place : pointer_place o b p i ≡ table + 4 * i = pointer_there o b p i ∙ ap (λ (q : ℕ). q + 4 * i) (sym e) in
      let n' : IsPlain o b (pointer_of o b p i) → ⊥ =
      subst (λ (v : ℕ). IsPlain o b v → ⊥) (pointer_read o b p i table pointer e f) n in
      subst (λ (q : ℕ). IsLeastFaultOf (IsPointerFault o b p) (Some (record { number = 16; at = q }))) place
      (first_other n')

  pub outside_there : (table pointer size start len : ℕ) → table ≡ offset_of o b p → pointer ≡ word o b (table + 4 * i)
      → size ≡ size_of o b p → start ≡ block_start pointer → len ≡ block_len size i → IsPlain o b pointer
      → (Lies b start len → ⊥) → IsLeastFaultOf (IsPointerFault o b p)
      (Some (record { number = 11; at = table + 4 * i }))
  outside_there table pointer size start len e f es et el plain n =
      let place : pointer_place o b p i ≡ table + 4 * i = pointer_there o b p i ∙ ap (λ (q : ℕ). q + 4 * i) (sym e) in
      let is = pointer_read o b p i table pointer e f in
      let n' : BlockLies o b p i → ⊥ = subst (λ (v : ℕ). Lies b v (block_len (size_of o b p) i) → ⊥)
      (et ∙ ap block_start is) (subst (λ (v : ℕ). Lies b start v → ⊥) (el ∙ ap (λ (v : ℕ). block_len v i) es) n) in
      subst (λ (q : ℕ). IsLeastFaultOf (IsPointerFault o b p) (Some (record { number = 11; at = q }))) place
      (first_outside (subst (IsPlain o b) is plain) n')

pub more_there : (o : Order) (b : List ℕ) (p i : ℕ) (table pointer size start len : ℕ) → ArePlain o b p i
    → table ≡ offset_of o b p → pointer ≡ word o b (table + 4 * i) → size ≡ size_of o b p → start ≡ block_start pointer
    → len ≡ block_len size i
    → IsPlain o b pointer → Lies b start len → ArePlain o b p (i + 1)
more_there o b p i table pointer size start len all e f es et el plain lies =
    let is = pointer_read o b p i table pointer e f in
    plain_more o b p i all (subst (IsPlain o b) is plain)
    (subst (λ (v : ℕ). Lies b v (block_len (size_of o b p) i)) (et ∙ ap block_start is)
    (subst (λ (v : ℕ). Lies b start v) (el ∙ ap (λ (v : ℕ). block_len v i) es) lies))

-- a fault that is at the record itself
pub record StandsHere (o : Order) (b : List ℕ) (p : ℕ) (f : Fault) : Type 0 where
  pub at : f.at ≡ p
  pub number : IsFaultAt o b p f.number

fault_is : (f : Fault) (n p : ℕ) → f.number ≡ n → f.at ≡ p → f ≡ record { number = n; at = p }
fault_is f n p e a = λ t. record { number = e t; at = a t }

module _ {o : Order} {b : List ℕ} {e p : ℕ} (fit : Fits o b e p) where
  here_fault : (f : Fault) → StandsHere o b p f → HasEntryFault o b e p f
  here_fault f h = elim h.number [
    | list_outside i n ↦ bad_body fit (list_fault (fault_is f 11 p i h.at) n)
    | table_outside i n ↦ bad_body fit (table_fault (fault_is f 11 p i h.at) n)
    | bad_name i n ↦ name_fault (fault_is f 13 p i h.at) fit n
    | other_kind i n ↦ bad_body fit (kind_fault (fault_is f 14 p i h.at) n)
    | link_size i t n ↦ bad_body fit (link_fault (fault_is f 15 p i h.at) t n)
  ]

  pointed_fault : (f : Fault) → IsPointerFault o b p f → HasEntryFault o b e p f
  pointed_fault f (other_block i k d t l n) = bad_body fit (kind_of_block i k d t l n)
  pointed_fault f (block_outside i k d t l m n) = bad_body fit (block_fault i k d t l m n)

  stands : (f : Fault) (n : ℕ) → f ≡ record { number = n; at = p } → IsFaultAt o b p n → StandsHere o b p f
  stands f n k h = record {
    at = ap (λ (v : Fault). v.at) k;
    number = subst (IsFaultAt o b p) (sym (ap (λ (v : Fault). v.number) k)) h;
  }

  which_fault : (f : Fault) → HasEntryFault o b e p f → StandsHere o b p f ⊎ IsPointerFault o b p f
  which_fault f (past_end k n) = absurd (n fit)
  which_fault f (name_fault k m n) = inl (stands f 13 k (bad_name refl n))
  which_fault f (bad_body m (kind_fault k n)) = inl (stands f 14 k (other_kind refl n))
  which_fault f (bad_body m (link_fault k t n)) = inl (stands f 15 k (link_size refl t n))
  which_fault f (bad_body m (list_fault k n)) = inl (stands f 11 k (list_outside refl n))
  which_fault f (bad_body m (table_fault k n)) = inl (stands f 11 k (table_outside refl n))
  which_fault f (bad_body m (kind_of_block i k d t l n)) = inr (other_block i k d t l n)
  which_fault f (bad_body m (block_fault i k d t l q n)) = inr (block_outside i k d t l q n)

  -- the least fault of an entry is the lesser of the two kinds
  pub entry_joined : (u v : Option Fault) → IsLeastFaultOf (StandsHere o b p) u
      → IsLeastFaultOf (IsPointerFault o b p) v → IsLeastFaultOf (HasEntryFault o b e p) (lesser_of_both u v)
  entry_joined u v x y = least_joined here_fault pointed_fault which_fault u v x y

pub numbered : (o : Order) (b : List ℕ) (p n : ℕ) → IsLeastOf (IsFaultAt o b p) (Some n)
    → IsLeastFaultOf (StandsHere o b p) (Some (record { number = n; at = p }))
numbered o b p n h =
    record { here = record { at = refl; number = h.here }; least = λ d k. inr (sym k.at, h.least d.number k.number) }

pub unnumbered : (o : Order) (b : List ℕ) (p : ℕ) → IsLeastOf (IsFaultAt o b p) None
    → IsLeastFaultOf (StandsHere o b p) None
unnumbered o b p h = record { here = tt; least = λ d k. h.least d.number k.number }

-- one that does not fit has no other fault
pub unfit : (o : Order) (b : List ℕ) (e p : ℕ) → (Fits o b e p → ⊥)
    → IsLeastFaultOf (HasEntryFault o b e p) (Some (record { number = 17; at = p }))
unfit o b e p n = record {
  here = past_end refl n;
  least = λ d h. elim h [
    | past_end k m ↦ let z : d.number ≡ 17 =
        ap (λ (v : Fault). v.number) k in inr (sym (ap (λ (v : Fault). v.at) k), omega arith)
    | name_fault k m x ↦ absurd (n m)
    | bad_body m x ↦ absurd (n m)
  ];
}

-- the least fault, if there is one
pub least_fault : (P : Fault → Type 0) (e : Fault) → IsLeastFaultOf P (Some e) → IsLeastFault P e
least_fault P e h = record { here = h.here; least = h.least }
