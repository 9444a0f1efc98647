-- The last name of each list.
use Rattle.std.specs.Borrow.{Bor}
use Rattle.std.proofs.Common.{eqb, ◌≡◌, ◌≢◌, ℕ, ◌+◌, ◌<◌, true, false, None, Some, List, [], length, take, get_or, ◌⊎◌}
use Rattle.std.proofs.Common.{inl, inr, refl, sym, ap, ◌∙◌, arith}
use Rattle.std.proofs.lemmas.Bool.{cases_lt, lt-ltb, le-ltb}
use Rattle.std.proofs.lemmas.Bool.Decides.{eqb_tells}
use Rattle.std.proofs.lemmas.List.{take_more}
use Rattle.std.specs.BTreeMap.{BTreeMap, get, Updates, is_at}
use Rattle.std.specs.Map.{lookup}
use Rattle.std.specs.Prelude.{if◌then◌else◌}
use Rattle.std.specs.Ordering.{nat_cmp}
use Rattle.record_forest.specs.declared.reference.Row.{Row}
use Rattle.cramfs_format.specs.declared.order.Order.{Order}
use Rattle.cramfs_format.specs.Inode.{name_of}
use Rattle.cramfs_image.specs.Phases.{last_name, name_seen}
use Rattle.cramfs_image.proofs.Naming.{last_push}

-- the map has the last name of each list among the rows
pub record HaveLast (o : Order) (b : List ℕ) (m : BTreeMap ℕ (Bor (List ℕ))) (rows : List Row) : Type 0 where
  pub finds : (d : ℕ) → name_seen (get nat_cmp m d) ≡ last_name o b d None rows

pub last_start : (o : Order) (b : List ℕ) (m : BTreeMap ℕ (Bor (List ℕ))) → m.entries ≡ [] → HaveLast o b m []
last_start o b m e = record { finds = λ d. ap name_seen (ap (lookup (is_at (nat_cmp d))) e) }

at_decides : (p q : ℕ) → ((is_at (nat_cmp p) q ≡ true) × (p ≡ q)) ⊎ ((is_at (nat_cmp p) q ≡ false) × (p ≢ q))
at_decides p q =
    elim (eqb_tells p q) [
      | inl e ↦ inl (rw (le-ltb p q (omega arith), e.0) refl, e.1)
      | inr n ↦ elim (cases_lt p q) [
        | inl l ↦ inr (rw (lt-ltb p q l) refl, n.1)
        | inr l ↦ inr
            (rw (le-ltb p q l, n.0) refl, n.1)
      ]
    ]

-- one row further
pub last_more : (o : Order) (b : List ℕ) (m n : BTreeMap ℕ (Bor (List ℕ))) (v : Bor (List ℕ)) (rows : List Row) (i : ℕ)
    (blank : Row) → i < length rows → HaveLast o b m (take i rows)
    → Updates nat_cmp m n (get_or rows i blank).directory (Some v)
    → v.now ≡ name_of o b (get_or rows i blank).offset → HaveLast o b n (take (i + 1) rows)
last_more o b m n v rows i blank l h u e = record {
  finds = λ d.
      let x : Row = get_or rows i blank in
      let push : last_name o b d None (take (i + 1) rows)
      ≡ (if eqb x.directory d then Some (name_of o b x.offset) else last_name o b d None (take i rows)) =
      ap (last_name o b d None) (take_more rows i blank l) ∙ last_push o b d None (take i rows) x in
      elim (eqb_tells x.directory d) [
        | inl t ↦ elim (at_decides x.directory d) [
          | inl w ↦ (let got : get nat_cmp n d
              ≡ Some v = u.0 d ∙ rw w.0 refl in let last : last_name o b d None (take (i + 1) rows)
              ≡ Some (name_of o b x.offset) = push ∙ rw t.0 refl in ap name_seen got ∙ ap Some e ∙ sym last)
          | inr w ↦ absurd (w.1 t.1)
        ]
        | inr t ↦ elim (at_decides x.directory d) [
          | inl w ↦ absurd (t.1 w.1)
          | inr w ↦ (let got : get nat_cmp n d
              ≡ get nat_cmp m d = u.0 d ∙ rw w.0 refl in let last : last_name o b d None (take (i + 1) rows)
              ≡ last_name o b d None (take i rows) = push ∙ rw t.0 refl in ap name_seen got ∙ h.finds d ∙ sym last)
        ]
      ];
}
