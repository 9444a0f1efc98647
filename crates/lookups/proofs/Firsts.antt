-- The first row with a name.
use Rattle.std.proofs.Common.{◌≡◌, ◌∙◌, ℕ, zero, suc, ◌+◌, ◌<◌, ◌≤◌, Bool, true, false, not, ◌&&◌, cond, is_eq, List}
use Rattle.std.proofs.Common.{[], ◌∷◌, ◌++◌, length, get_or, Option, Some, None, refl, sym, ap, arith, inl, inr}
use Rattle.std.proofs.Common.{if◌then◌else◌}
use Rattle.std.proofs.lemmas.Bool.{true≢false, cases_lt}
use Rattle.std.proofs.lemmas.List.{get_or_default}
use Rattle.std.proofs.lemmas.List.Sorted.{sorted_far, ranks_by}
use Rattle.std.proofs.lemmas.Cmp.{nat_list_cmp_total, on_total}
use Rattle.std.specs.Cmp.{IsStrictWeakOrder}
use Rattle.std.specs.Cmp.Lexicographic.{bytes_decides}
use Rattle.std.specs.List.{filter, AllWithin}
use Rattle.std.specs.List.Sorted.{IsSorted, IsPartitionedBy, IsPartitionPoint, IsStableBy, ties}
use Rattle.std.specs.Ordering.{is_lt, ordering_reverse}
use Rattle.std.specs.declared.cmp.Ordering.{Ordering}
use Rattle.std.specs.declared.cmp.Ordering.TheVariants.{Less, Equal, Greater}
use Rattle.std.proofs.lemmas.Map.Text.{is_eq-slice_cmp}
use Rattle.std.specs.Str.{bytes_eq}
use Rattle.rom_tree.specs.declared.types.NodeId.{NodeId}
use Rattle.lookups.specs.declared.rows.NamedNode.{NamedNode}
use Rattle.lookups.specs.Indices.{by_name, first_of, is_below}
use Rattle.lookups.proofs.Orders.{compared, before_too, before_other, after_other}

abbrev pub name_in : NamedNode → List ℕ
name_in x = x.name.now

order : IsStrictWeakOrder (λ (x y : NamedNode). is_lt (by_name x y))
order = ranks_by (on_total name_in nat_list_cmp_total) (λ x. x)

-- rows that are sorted by names are parted by each name
pub parted : (ys : List NamedNode) (t : List ℕ) → IsSorted by_name ys → IsPartitionedBy (is_below t) ys
parted ys t up i j d l m low =
    before_too (name_in (get_or ys i d)) (name_in (get_or ys j d)) t
    (sorted_far (λ x y. is_lt (by_name x y)) order ys up i j d l m) low

-- all rows up to one that comes before a name do
pub below_up_to : (ys : List NamedNode) (t : List ℕ) (i : ℕ) (d : NamedNode) → IsSorted by_name ys → i < length ys
    → is_below t (get_or ys i d) ≡ true → AllWithin (λ x. is_below t x ≡ true) ys 0 (i + 1)
below_up_to ys t i d up l low =
    λ k e m h. parted ys t up k i e (omega arith) l (ap (is_below t) (get_or_default ys i e d l) ∙ low)

-- and none from one on that does not
pub above_from : (ys : List NamedNode) (t : List ℕ) (i : ℕ) (d : NamedNode) → IsSorted by_name ys → i < length ys
    → is_below t (get_or ys i d) ≡ false → AllWithin (λ x. is_below t x ≡ false) ys i (length ys)
above_from ys t i d up l high = λ k e m h. by_test k e m h (is_below t (get_or ys k e)) refl
  where
    by_test : (k : ℕ) (e : NamedNode) → i ≤ k → k < length ys → (b : Bool) → is_below t (get_or ys k e) ≡ b
        → is_below t (get_or ys k e) ≡ false
    by_test k e m h true q =
        absurd (true≢false (sym (parted ys t up i k e m h q) ∙ (ap (is_below t) (get_or_default ys i e d l) ∙ high)))
    by_test k e m h false q = q

-- a first row that has another name
other_first : (x : NamedNode) (xs : List NamedNode) (t : List ℕ) → (name_in x ≡ t → ⊥)
    → first_of (x ∷ xs) t ≡ first_of xs t
other_first x xs t n = by_test (bytes_eq (name_in x) t) refl
  where
    by_test : (b : Bool) → bytes_eq (name_in x) t ≡ b → first_of (x ∷ xs) t ≡ first_of xs t
    by_test true e = absurd (n ((bytes_decides (name_in x) t).0 e))
    by_test false e = rw e refl

same_first : (x : NamedNode) (xs : List NamedNode) (t : List ℕ) → name_in x ≡ t → first_of (x ∷ xs) t ≡ Some x.node
same_first x xs t e = rw ((bytes_decides (name_in x) t).1 e) refl

-- the first row with the name is at p
pub first_at : (ys : List NamedNode) (t : List ℕ) (p : ℕ) (d : NamedNode) → p < length ys
    → ((k : ℕ) → k < p → name_in (get_or ys k d) ≡ t → ⊥) → name_in (get_or ys p d) ≡ t
    → first_of ys t ≡ Some (get_or ys p d).node
first_at [] t p d l n e = absurd (omega arith)
first_at (x ∷ xs) t zero d l n e = same_first x xs t e
first_at (x ∷ xs) t (suc p) d l n e =
    other_first x xs t (n 0 (omega arith)) ∙ first_at xs t p d (omega arith) (λ k h. n (suc k) (omega arith)) e

-- no row has the name
pub first_none : (ys : List NamedNode) (t : List ℕ) (d : NamedNode)
    → ((k : ℕ) → k < length ys → name_in (get_or ys k d) ≡ t → ⊥) → first_of ys t ≡ None
first_none [] t d n = refl
first_none (x ∷ xs) t d n = other_first x xs t (n 0 (omega arith)) ∙ first_none xs t d (λ k h. n (suc k) (omega arith))

module _ (ys : List NamedNode) (t : List ℕ) (up : IsSorted by_name ys) (p : ℕ)
    (at_p : IsPartitionPoint (λ y. is_below t y ≡ true) (λ y. is_below t y ≡ false) ys p) where
  earlier : (k : ℕ) (d : NamedNode) → k < p → name_in (get_or ys k d) ≡ t → ⊥
  earlier k d l = before_other (name_in (get_or ys k d)) t (at_p.0 k d (omega arith) l)

  -- the row at the point has the name
  pub found_there : (d : NamedNode) → p < length ys → name_in (get_or ys p d) ≡ t
      → first_of ys t ≡ Some (get_or ys p d).node
  found_there d l e = first_at ys t p d l (λ k h. earlier k d h) e

  -- it has another
  pub found_nowhere : (d : NamedNode) → p < length ys → (name_in (get_or ys p d) ≡ t → ⊥) → first_of ys t ≡ None
  found_nowhere d l n = first_none ys t d (λ k h. elim (cases_lt k p) [
    | inl c ↦ earlier k d c
    | inr c ↦ after_other (name_in (get_or ys p d)) (name_in (get_or ys k d)) t (at_p.1 p d (omega arith) l) n
        (sorted_far (λ x y. is_lt (by_name x y)) order ys up p k d c h)
  ])

  -- no row is there
  pub found_past : (d : NamedNode) → length ys ≤ p → first_of ys t ≡ None
  found_past d l = first_none ys t d (λ k h. earlier k d (omega arith))

-- one more row
abbrev pub or_else : Option NodeId → Option NodeId → Option NodeId
or_else None b = b
or_else (Some a) b = Some a

one_joined : (b : Bool) (n : NodeId) (all first second : Option NodeId) → all ≡ or_else first second
    → (if b then Some n else all) ≡ or_else (if b then Some n else first) second
one_joined true n all first second e = refl
one_joined false n all first second e = e

pub first_joined : (xs ys : List NamedNode) (t : List ℕ)
    → first_of (xs ++ ys) t ≡ or_else (first_of xs t) (first_of ys t)
first_joined [] ys t = refl
first_joined (x ∷ xs) ys t = one_joined (bytes_eq (name_in x) t) x.node (first_of (xs ++ ys) t) (first_of xs t)
    (first_of ys t) (first_joined xs ys t)

-- a row with this name
abbrev with_name : List ℕ → NamedNode
with_name t = record { name = record { ref_ptr = (0, 0); now = t }; node = record { 0 = 0 } }

-- whether a row ties with a name
abbrev tied : List ℕ → NamedNode → Bool
tied t y = ties (λ (a b : NamedNode). is_lt (by_name a b)) (with_name t) y

-- the first row leads here
abbrev first_node : List NamedNode → Option NodeId
first_node [] = None
first_node (x ∷ xs) = Some x.node

neither_less : (r : Ordering) → (not (is_lt (ordering_reverse r)) && not (is_lt r)) ≡ is_eq r
neither_less Less = refl
neither_less Equal = refl
neither_less Greater = refl

tied_same : (t : List ℕ) (y : NamedNode) → tied t y ≡ bytes_eq (name_in y) t
tied_same t y =
    ap (λ (o : Ordering). not (is_lt o) && not (is_lt (compared (name_in y) t)))
    (nat_list_cmp_total.antisymm t (name_in y))
    ∙ (neither_less (compared (name_in y) t) ∙ is_eq-slice_cmp (name_in y) t)

one_filtered : (b : Bool) (x : NamedNode) (first : Option NodeId) (others : List NamedNode) → first ≡ first_node others
    → (if b then Some x.node else first) ≡ first_node (cond b (x ∷ others) others)
one_filtered true x first others e = refl
one_filtered false x first others e = e

by_filter : (xs : List NamedNode) (t : List ℕ) → first_of xs t ≡ first_node (filter (tied t) xs)
by_filter [] t = refl
by_filter (x ∷ xs) t =
    one_filtered (bytes_eq (name_in x) t) x (first_of xs t) (filter (tied t) xs) (by_filter xs t)
    ∙ ap (λ (b : Bool). first_node (cond b (x ∷ filter (tied t) xs) (filter (tied t) xs))) (sym (tied_same t x))

-- a stable sort by names keeps the first row with each name
pub first_kept : (xs ys : List NamedNode) (t : List ℕ) → IsStableBy (λ (a b : NamedNode). is_lt (by_name a b)) xs ys
    → first_of ys t ≡ first_of xs t
first_kept xs ys t stable = by_filter ys t ∙ (ap first_node (stable (with_name t)) ∙ sym (by_filter xs t))
