-- The sections of the code are those of the layout.
use Rattle.std.proofs.Common.{◌≡◌, ◌+◌, ◌*◌, ◌<◌, ◌≤◌, ◌==◌, ◌||◌, nat_lt, not, Bool, true, false, cond, ℕ, zero, suc}
use Rattle.std.proofs.Common.{List, [], ◌∷◌, ◌++◌, map, drop, length, get_or, refl, sym, ap, subst, ◌∙◌, arith, inl}
use Rattle.std.proofs.Common.{inr, IsPermutation}
use Rattle.std.specs.List.{AllByRecursion as Every}
use Rattle.std.specs.List.Sorted.{IsNonDecreasingBy}
use Rattle.std.specs.BTreeSet.{BTreeSet, contains, Updates}
use Rattle.std.specs.Ordering.{nat_cmp}
use Rattle.std.proofs.lemmas.Bool.{cases_lt, lt-ltb, le-ltb}
use Rattle.std.proofs.lemmas.Bool.Decides.{eqb_tells}
use Rattle.std.specs.BTreeMap.{is_at}
use Rattle.std.proofs.lemmas.List.{append_assoc}
use Rattle.std.proofs.lemmas.List.Sorted.{IsPermutation-refl, IsPermutation-cons, IsPermutation-trans}
use Rattle.std.proofs.lemmas.List.Sorted.{IsPermutation-middle, IsPermutation-map}
use Rattle.cramfs_format.specs.Inode.{block_count}
use Rattle.manifest_tree.specs.Items.{Item, Section, section, record_of, table_of, bytes_section, put_section, in_order}
use Rattle.manifest_tree.specs.Items.{SectionsRise}
use Rattle.manifest_layout.specs.declared.section.Section as code
use Rattle.manifest_layout.specs.declared.item.Item as code_item
use Rattle.manifest_layout.specs.Views.{item_view, section_view}
use Rattle.cramfs_layout.specs.Items.{has_table, sections_from, sections_of}
use Rattle.cramfs_layout.specs.Layout.{entry_len}
use Rattle.cramfs_plan.specs.Orders.{Rises}
use Rattle.cramfs_plan.specs.Tables.{HoldsTables, own_sections, unsorted}
use Rattle.cramfs_plan.proofs.Sorting.{Ascends, ascends, same_order}

-- an item's sections, if its table is new exactly if no earlier item has it
pub own_are : (earlier : List Item) (index : ℕ) (i : Item) (is : List Item) (fresh : Bool)
    → fresh ≡ not (has_table earlier i.table)
    → sections_from earlier index (i ∷ is) ≡ own_sections fresh index i ++ sections_from (i ∷ earlier) (index + 1) is
own_are earlier index i is fresh e =
    ap (λ (b : Bool). section i.place (entry_len i.name) (record_of index)
    ∷ (cond ((i.len == 0) || b) [] (section i.table (4 * block_count i.len) (table_of index) ∷ bytes_section index i)
    ++ sections_from (i ∷ earlier) (index + 1) is))
    (twice (has_table earlier i.table) ∙ ap not (sym e))
  where
    twice : (b : Bool) → b ≡ not (not b)
    twice false = refl
    twice true = refl

-- the sections in order are those that there are
put_permutes : (s : Section) (ss : List Section) → IsPermutation (put_section s ss) (s ∷ ss)
put_permutes s [] = IsPermutation-refl _
put_permutes s (t ∷ ts) =
    elim (nat_lt s.place t.place) as (λ b. IsPermutation (cond b (s ∷ t ∷ ts) (t ∷ put_section s ts)) (s ∷ t ∷ ts)) [
      | true ↦ IsPermutation-refl _
      | false ↦ IsPermutation-trans _ _ _ (IsPermutation-cons t _ _ (put_permutes s ts))
          (IsPermutation-middle (t ∷ []) s ts)
    ]

order_permutes : (ss : List Section) → IsPermutation (in_order ss) ss
order_permutes [] = IsPermutation-refl _
order_permutes (s ∷ ss) =
    IsPermutation-trans _ _ _ (put_permutes s (in_order ss)) (IsPermutation-cons s _ _ (order_permutes ss))

sections_permute : (is : List Item) → IsPermutation (sections_of is) (unsorted is)
sections_permute [] = IsPermutation-refl _
sections_permute (root ∷ is) = IsPermutation-cons _ _ _ (order_permutes (sections_from [] 1 is))

-- sections that are one after the other are in the order of their offsets
behind : (at end : ℕ) (ss : List Section) → SectionsRise at end ss → Every (λ (s : Section). at ≤ s.place) ss
behind at end [] r = tt
behind at end (s ∷ ss) r =
    (r.0, later (s.place + s.len) (let a = r.0 in omega (arith, a)) ss (behind (s.place + s.len) end ss r.2))
  where
    later : (b : ℕ) → at ≤ b → (ts : List Section) → Every (λ (t : Section). b ≤ t.place) ts
        → Every (λ (t : Section). at ≤ t.place) ts
    later b l [] e = tt
    later b l (t ∷ ts) e = (let x = e.0 in omega (arith, l, x), later b l ts e.1)

rising : (at end : ℕ) (ss : List Section) → SectionsRise at end ss → Rises (λ (s : Section). s.place) ss
rising at end [] r = tt
rising at end (s ∷ ss) r = (apart ss (behind (s.place + s.len) end ss r.2), rising (s.place + s.len) end ss r.2)
  where
    apart : (ts : List Section) → Every (λ (t : Section). s.place + s.len ≤ t.place) ts
        → Every (λ (t : Section). s.place < t.place) ts
    apart [] e = tt
    apart (t ∷ ts) e = (let x = e.0 in let y = r.1 in omega (arith, x, y), apart ts e.1)

ascends_viewed : (ss : List code.Section) → Ascends (λ (s : code.Section). s.place) ss
    → Ascends (λ (s : Section). s.place) (map section_view ss)
ascends_viewed [] h = tt
ascends_viewed (s ∷ ss) h = (all ss h.0, ascends_viewed ss h.1)
  where
    all : (ts : List code.Section) → Every (λ (t : code.Section). s.place ≤ t.place) ts
        → Every (λ (t : Section). s.place ≤ t.place) (map section_view ts)
    all [] k = tt
    all (t ∷ ts) k = (k.0, all ts k.1)

pub sorted_are : (ss ts : List code.Section) (is : List Item) (end : ℕ) → SectionsRise 0 end (sections_of is)
    → map section_view ss ≡ unsorted is → IsPermutation ss ts → IsNonDecreasingBy (λ (t : code.Section). t.place) ts
    → map section_view ts ≡ sections_of is
sorted_are ss ts is end up are moved sorted =
    let whole = IsPermutation-trans (sections_of is) (unsorted is) (map section_view ts) (sections_permute is)
    (subst (λ l. IsPermutation l (map section_view ts)) are (IsPermutation-map section_view ss ts moved)) in
    same_order (λ (s : Section). s.place) (sections_of is) (map section_view ts)
    (rising 0 end (sections_of is) up) whole (ascends_viewed ts (ascends (λ (t : code.Section). t.place) ts sorted))

at_is : (p q : ℕ) → is_at (nat_cmp p) q ≡ (p == q)
at_is p q =
    elim (eqb_tells p q) [
      | inl e ↦ rw (le-ltb p q (omega arith), e.0) refl
      | inr n ↦ elim (cases_lt p q) [ inl l ↦ rw (lt-ltb p q l, n.0) refl | inr l ↦ rw (le-ltb p q l, n.0) refl ]
    ]

-- one item more
pub holds_more : (earlier : List Item) (i : Item) (old new : BTreeSet ℕ) → HoldsTables earlier old
    → Updates nat_cmp old new i.table true
    → HoldsTables (i ∷ earlier) new
holds_more earlier i old new h u t =
    u.0 t ∙ ap (λ (b : Bool). cond b true (contains nat_cmp old t)) (at_is i.table t)
    ∙ ap (λ (b : Bool). cond (i.table == t) true b) (h t) ∙ either (i.table == t) (has_table earlier t)
  where
    either : (a b : Bool) → cond a true b ≡ (a || b)
    either true b = refl
    either false b = refl

-- an item by its index
pub short_at : (is : List code_item.Item) (i : ℕ) (x : code_item.Item) → i < length is → x ≡ get_or is i x
    → Every (λ (y : Item). length y.name < 256) (map item_view is) → length x.name < 256
short_at [] i x h e s = absurd (omega (arith, h))
short_at (y ∷ ys) zero x h e s = let l = s.0 in subst (λ (z : code_item.Item). length z.name < 256) (sym e) l
short_at (y ∷ ys) (suc i) x h e s = short_at ys i x (omega (arith, h)) e s.1

item_suc : (is : List code_item.Item) (i : ℕ) (x : code_item.Item) → i < length is → x ≡ get_or is i x
    → map item_view (drop i is) ≡ item_view x ∷ map item_view (drop (suc i) is)
item_suc [] i x h e = absurd (omega (arith, h))
item_suc (y ∷ ys) zero x h e = ap (λ (z : code_item.Item). item_view z ∷ map item_view ys) (sym e)
item_suc (y ∷ ys) (suc i) x h e = item_suc ys i x (omega (arith, h)) e

pub item_at : (is : List code_item.Item) (i : ℕ) (x : code_item.Item) → i < length is → x ≡ get_or is i x
    → map item_view (drop i is) ≡ item_view x ∷ map item_view (drop (i + 1) is)
item_at is i x h e = item_suc is i x h e ∙ ap (λ (j : ℕ). item_view x ∷ map item_view (drop j is)) (one_more i)
  where
    one_more : (j : ℕ) → suc j ≡ j + 1
    one_more j = omega arith

-- the sections of an item are done, and those of the items behind it are not
pub item_done : (old new total : List Section) (earlier : List Item) (index : ℕ) (i : Item) (now is : List Item)
    (fresh : Bool)
    → now ≡ i ∷ is → fresh ≡ not (has_table earlier i.table) → new ≡ old ++ own_sections fresh index i
    → old ++ sections_from earlier index now ≡ total → new ++ sections_from (i ∷ earlier) (index + 1) is ≡ total
item_done old new total earlier index i now is fresh n e p t =
    ap (λ (l : List Section). l ++ sections_from (i ∷ earlier) (index + 1) is) p
    ∙ append_assoc old (own_sections fresh index i) (sections_from (i ∷ earlier) (index + 1) is)
    ∙ ap (λ (l : List Section). old ++ l) (sym (own_are earlier index i is fresh e))
    ∙ ap (λ (l : List Item). old ++ sections_from earlier index l) (sym n) ∙ t
