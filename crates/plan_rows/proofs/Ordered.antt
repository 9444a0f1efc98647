-- A row more at its key is an entry more of the tree.
use Rattle.std.proofs.Common.{◌≡◌, ℕ, ◌+◌, ◌==◌, if◌then◌else◌, inl, cond, true, false, nat_cmp, Less, Equal, Greater}
use Rattle.std.proofs.Common.{List, [], ◌∷◌, map, Vec, refl, ap, ◌∙◌}
use Rattle.std.specs.BTreeMap.{insert_entry}
use Rattle.std.specs.Cmp.Lexicographic.{slice_cmp, nat_list_cmp_total}
use Rattle.std.specs.Ordering.{match_ordering, is_lt, ordering_reverse}
use Rattle.record_forest.proofs.Lists.{has_of}
use Rattle.cramfs_format.specs.Tree.{precedes}
use Rattle.manifest_layout.proofs.Orders.{same_order}
use Rattle.plan_rows.specs.Entries.{Entry, put_entry, Rise}
use Rattle.plan_rows.proofs.Rising.{holds_put}
use Rattle.plan_rows.specs.declared.row.Row as code_row
use Rattle.plan_rows.specs.Rows.{Row, row, row_view}
use Rattle.plan_rows.specs.Keyed.{Keyed, keyed, put_keyed, behind}

-- what the map does to its entries
pub listed_put : {A : Type 0} (es : List (Vec ℕ A × code_row.Row)) (k : Vec ℕ A) (r : code_row.Row)
    → map (λ e. keyed e.0.items (row_view e.1)) (insert_entry (λ x y. slice_cmp nat_cmp x.items y.items) es k r)
    ≡ put_keyed (keyed k.items (row_view r)) (map (λ e. keyed e.0.items (row_view e.1)) es)
listed_put [] k r = refl
listed_put (e ∷ es) k r = elim (slice_cmp nat_cmp k.items e.0.items) as
    (λ o. map (λ e. keyed e.0.items (row_view e.1))
    (match_ordering o ((k, r) ∷ e ∷ es) ((e.0, r) ∷ es)
    (e ∷ insert_entry (λ x y. slice_cmp nat_cmp x.items y.items) es k r))
    ≡ match_ordering o (keyed k.items (row_view r) ∷ map (λ e. keyed e.0.items (row_view e.1)) (e ∷ es))
    (keyed e.0.items (row_view r) ∷ map (λ e. keyed e.0.items (row_view e.1)) es)
    (keyed e.0.items (row_view e.1) ∷ put_keyed (keyed k.items (row_view r))
    (map (λ e. keyed e.0.items (row_view e.1)) es))) [
      | Less ↦ refl
      | Equal ↦ refl
      | Greater ↦ ap (λ (ks : List Keyed). keyed e.0.items (row_view e.1) ∷ ks) (listed_put es k r)
    ]

-- the number of bytes b in a text
abbrev pub tally : ℕ → List ℕ → ℕ
tally b [] = 0
tally b (x ∷ xs) = if x == b then 1 + tally b xs else tally b xs

-- the row of an entry, from its key
abbrev pub row_by : Entry → Row
row_by e = row (tally 0 e.key) (behind 0 [] e.key) e.what

abbrev pub by_key : Entry → Keyed
by_key e = keyed e.key (row_by e)

-- the order of keys by their comparison
less : (a b : List ℕ) → precedes a b ≡ true → slice_cmp nat_cmp a b ≡ Less
less a b h = elim (slice_cmp nat_cmp a b) as (λ o. is_lt o ≡ true → o ≡ Less) [
  | Less ↦ λ e. refl
  | Equal ↦ λ e. absurd (cc)
  | Greater ↦ λ e. absurd (cc)
] (same_order a b ∙ h)

greater : (a b : List ℕ) → precedes b a ≡ true → slice_cmp nat_cmp a b ≡ Greater
greater a b h = nat_list_cmp_total.antisymm a b ∙ ap ordering_reverse (less b a h)

pub put_is : (e : Entry) (es : List Entry) → Rise (put_entry e es)
    → put_keyed (by_key e) (map by_key es) ≡ map by_key (put_entry e es)
put_is e [] h = refl
put_is e (d ∷ ds) h = elim (precedes e.key d.key) as
    (λ t. precedes e.key d.key ≡ t → Rise (cond t (e ∷ d ∷ ds) (d ∷ put_entry e ds))
    → put_keyed (by_key e) (map by_key (d ∷ ds)) ≡ map by_key (cond t (e ∷ d ∷ ds) (d ∷ put_entry e ds))) [
      | true ↦ λ b r. rw (less e.key d.key b) refl
      | false ↦ λ b r.
          let after : precedes d.key e.key ≡ true =
          has_of (λ (x : Entry). precedes d.key x.key ≡ true) (put_entry e ds) e (holds_put e ds e (inl refl)) r.0 in
          rw (greater e.key d.key after) (ap (λ (ks : List Keyed). by_key d ∷ ks) (put_is e ds r.1))
    ] refl h
