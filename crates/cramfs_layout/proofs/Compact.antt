-- Between the sections of a layout is no room that alignment does not need.
use Rattle.std.proofs.Common.{◌≡◌, ◌≢◌, ℕ, ◌+◌, ◌-◌, ◌*◌, ◌%◌, ◌<◌, ◌≤◌, true, false, nat_lt, cond}
use Rattle.std.proofs.Common.{if◌then◌else◌, ◌⊎◌, inl, inr, List, [], ◌∷◌, ◌++◌, length, refl, sym, ap, subst, ◌∙◌}
use Rattle.std.proofs.Common.{arith}
use Rattle.std.proofs.Math.Nat.{div-mul-le_self}
use Rattle.std.proofs.lemmas.Bool.Decides.{eqb_tells}
use Rattle.std.specs.List.{AllByRecursion as Every}
use Rattle.record_forest.specs.Members.{Has}
use Rattle.record_forest.proofs.Lists.{every_join, every_left, every_right, every_of, has_of}
use Rattle.cramfs_format.specs.declared.order.Order.{Order}
use Rattle.cramfs_format.specs.Inode.{block_count}
use Rattle.rom_fields.specs.Padding.{pad}
use Rattle.manifest_tree.specs.Names.{Fill, no_bytes, text, source, Inode, Names, nothing, leaf, link, subdirectory}
use Rattle.manifest_tree.specs.Names.{bytes_of}
use Rattle.manifest_tree.specs.Alignments.{align_by, HaveAlignments}
use Rattle.manifest_tree.specs.Items.{Item, Section, section, table_of, fill_section, put_section, in_order}
use Rattle.manifest_tree.specs.Items.{SectionsRise}
use Rattle.manifest_tree.proofs.Sections.{order_every}
use Rattle.cramfs_layout.specs.Layout.{pad4, entry_len, list_len, State, Kept, nowhere, shared, fresh, kept, kept_by}
use Rattle.cramfs_layout.specs.Layout.{data_of, after_by, after_file, after_list, after_names, first_state, size_of}
use Rattle.cramfs_layout.specs.Items.{AreAlignedBy, kept_item, entries, below, items_of, has_table, table_sections}
use Rattle.cramfs_layout.specs.Items.{sections_from, sections_of}
use Rattle.cramfs_layout.specs.Compact.{section_align, AreCompact}
use Rattle.cramfs_layout.specs.Wells.{IsFile, AreWell}
use Rattle.cramfs_layout.specs.Planned.{IsPlanned}
use Rattle.cramfs_layout.proofs.Stored.{data_after, none_by}
use Rattle.cramfs_layout.proofs.Tabled.{FileFresh, AllFresh, IsTabled, all_tabled}
use Rattle.cramfs_layout.proofs.Shown.{OfSection, OfItem}
use Rattle.cramfs_layout.proofs.Joined.{of_items}
use Rattle.cramfs_layout.proofs.Sectioned.{rise}

-- a section ends at e
abbrev Ends : ℕ → Section → Type 0
Ends e x = x.place + x.len ≡ e

-- the superblock or a section ends at e
abbrev IsEnd : List Section → ℕ → Type 0
IsEnd S e = (e ≡ 76) ⊎ Has (Ends e) S

-- one ends at an offset or before, and less than `room` before it
abbrev IsClose : List Section → ℕ → ℕ → Type 0
IsClose S room a = (e : ℕ) × IsEnd S e × (e ≤ a) × (a < e + room)

-- one ends at an offset, or the offset is no further than the next multiple of 4
abbrev IsNear : List Section → ℕ → Type 0
IsNear S a = (e : ℕ) × IsEnd S e × (e ≤ a) × (a ≤ pad4 e)

-- what an item has ends at such ends
abbrev EndsOf : List Section → Item → Type 0
EndsOf S i = IsEnd S (i.place + entry_len i.name)
    × (i.len ≢ 0 → IsEnd S (i.table + 4 * block_count i.len) × IsEnd S (i.start + i.len))

ends_or : (e : ℕ) (S : List Section) → Has (Ends e) S ⊎ Every (OfSection (λ p l. p + l ≢ e)) S
ends_or e [] = inr tt
ends_or e (x ∷ xs) = elim (eqb_tells (x.place + x.len) e) [
  | inl t ↦ inl (inl t.1)
  | inr t ↦ elim (ends_or e xs) [ inl h ↦ inl (inr h) | inr h ↦ inr (t.1, h) ]
]

close_by : (S : List Section) (a : ℕ) → IsNear S a → IsClose S 4 a
close_by S a n = let h = n.3 in (n.0, n.1, n.2, omega arith)

near_padded : (S : List Section) (a : ℕ) → IsNear S a → IsNear S (pad4 a)
near_padded S a n = let l = n.2 in let h = n.3 in (n.0, n.1, omega arith, omega arith)

near_end : (S : List Section) (e : ℕ) → IsEnd S e → IsNear S e
near_end S e h = (e, h, omega arith, omega arith)

-- the records of a list are one after the other
entries_close : (S : List Section) (o : Order) (l : ℕ) (s : State) (n : Names) → IsNear S l
    → Every (EndsOf S) (entries o l s n)
    → Every (λ i. IsClose S 4 i.place) (entries o l s n) × IsNear S (l + list_len n)
entries_close S o l s nothing near ends =
    let e : l ≡ l + 0 = omega arith in (tt, subst (IsNear S) e near)
entries_close S o l s (leaf name i rest) near ends =
    let q = l + entry_len name in
    let more = entries_close S o q (after_file s i) rest (near_end S q ends.0.0) ends.1 in
    let e : q + list_len rest ≡ l + (entry_len name + list_len rest) = omega arith in
    ((close_by S l near, more.0), subst (IsNear S) e more.1)
entries_close S o l s (link name i rest) near ends =
    let q = l + entry_len name in
    let more = entries_close S o q (after_file s i) rest (near_end S q ends.0.0) ends.1 in
    let e : q + list_len rest ≡ l + (entry_len name + list_len rest) = omega arith in
    ((close_by S l near, more.0), subst (IsNear S) e more.1)
entries_close S o l s (subdirectory name i own rest) near ends =
    let q = l + entry_len name in
    let more = entries_close S o q (after_names (after_list s own) own) rest (near_end S q ends.0.0) ends.1 in
    let e : q + list_len rest ≡ l + (entry_len name + list_len rest) = omega arith in
    ((close_by S l near, more.0), subst (IsNear S) e more.1)

-- a table is close to what is before it, and at a multiple of 4
abbrev TableClose : List Section → ℕ → ℕ → ℕ → Type 0
TableClose S t d n = IsClose S 4 t × (t % 4 ≡ 0)

pad4_even : (a : ℕ) → pad4 a % 4 ≡ 0
pad4_even a = omega arith

file_close : (S : List Section) (o : Order) (l : ℕ) (name : List ℕ) (s : State) (i : Inode) (k : Kept)
    → kept s.tables i ≡ k → IsNear S s.at → EndsOf S (kept_item o l s.at name i k)
    → IsNear S (after_by k s i).at × FileFresh (TableClose S) s i k
unfolding kept
file_close S o l name s i nowhere e near ends = (near, tt)
file_close S o l name s i (shared t) e near ends = (near, tt)
file_close S o l name s i fresh e near ends = elim (eqb_tells i.size 0) [
  | inl y ↦ let z : nowhere ≡ fresh = (rw y.0 at e) in absurd (cc)
  | inr y ↦ (
    near_end S (data_of s.at i + i.size) (ends.1 y.1).1,
    λ n. (close_by S (pad4 s.at) (near_padded S s.at near), pad4_even s.at),
  )
]

-- what the names below place is close to what is before it
record AreNear (S : List Section) (o : Order) (s : State) (n : Names) : Type 0 where
  places : Every (λ i. IsClose S 4 i.place) (below o s n)
  near : IsNear S (after_names s n).at
  fresh_too : AllFresh (TableClose S) s n

are_near : (S : List Section) (o : Order) (cs : List (List ℕ)) (l : ℕ) (s : State) (n : Names) → AreWell cs n
    → IsNear S s.at → Every (EndsOf S) (entries o l s n) → Every (EndsOf S) (below o s n) → AreNear S o s n
are_near S o cs l s nothing h near here under = record { places = tt; near = near; fresh_too = tt }
are_near S o cs l s (leaf name i rest) h near here under =
    let one = file_close S o l name s i (kept s.tables i) refl near here.0 in
    let more = are_near S o cs (l + entry_len name) (after_file s i) rest h.2 one.0 here.1 under in
    record { places = more.places; near = more.near; fresh_too = (one.1, more.fresh_too) }
are_near S o cs l s (link name i rest) h near here under = absurd h
are_near S o cs l s (subdirectory name i own rest) h near here under =
    let P : Item → Type 0 = λ i. IsClose S 4 i.place in
    let s1 = after_list s own in
    let s2 = after_names s1 own in
    let q = pad4 s.at in
    let es = entries o q s1 own in
    let mine = below o s1 own in
    let more = below o s2 rest in
    let own_ends = every_left (EndsOf S) es (mine ++ more) under in
    let both = every_right (EndsOf S) es (mine ++ more) under in
    let list = entries_close S o q s1 own (near_padded S s.at near) own_ends in
    let inner = are_near S o cs q s1 own h.2 list.1 own_ends (every_left (EndsOf S) mine more both) in
    let later = are_near S o cs (l + entry_len name) s2 rest h.3 inner.near here.1
    (every_right (EndsOf S) mine more both) in
    record {
      places = every_join P es (mine ++ more) list.0 (every_join P mine more inner.places later.places);
      near = later.near;
      fresh_too = (inner.fresh_too, later.fresh_too);
    }

pad_close : (n k : ℕ) → 0 < k → pad n k < n + k
pad_close n k h = omega (arith, div-mul-le_self (n + (k - 1)) k)

data_close : (cs : List (List ℕ)) (from : ℕ) (i : Inode) → IsFile cs i
    → data_of from i < pad4 from + 4 * block_count i.size + i.align
unfolding data_of
data_close cs from i h =
    let k : 0 < i.align = let s = h.some in let a = h.aligned in omega (arith, a) in
    pad_close (pad4 from + 4 * block_count i.size) i.align k

-- the bytes of an item are behind its table, by less than their alignment
abbrev IsSpaced : (ℕ → ℕ) → Item → Type 0
IsSpaced align i = i.len ≢ 0 → (i.table + 4 * block_count i.len ≤ i.start)
    × (i.start < i.table + 4 * block_count i.len + align_by align i.fill)

item_spaced : (o : Order) (cs : List (List ℕ)) (align : ℕ → ℕ) (S : List Section) (l : ℕ) (name : List ℕ) (s : State)
    (i : Inode) (k : Kept)
    → IsFile cs i → i.align ≡ align_by align i.fill → kept s.tables i ≡ k
    → IsTabled (TableClose S) (kept_item o l s.at name i k) → IsSpaced align (kept_item o l s.at name i k)
unfolding kept
item_spaced o cs align S l name s i nowhere h al e tabled = λ n. elim (eqb_tells i.size 0) [
  | inl z ↦ absurd (n z.1)
  | inr z ↦
      let e' : kept_by s.tables i.fill ≡ nowhere = (rw z.0 at e) in
      let m : length (bytes_of cs i.fill) ≡ 0 =
      ap (λ (f : Fill). length (bytes_of cs f)) (none_by s.tables i.fill e') in
      absurd (n (sym h.bytes ∙ m))
]
item_spaced o cs align S l name s i (shared t) h al e tabled = λ n.
    let even = (tabled n).1 in
    let four : pad4 t ≡ t = omega (arith, even) in
    let low = (data_after cs t i h).0 in
    let high = data_close cs t i h in
    (omega (arith, four, low), omega (arith, four, high, al))
item_spaced o cs align S l name s i fresh h al e tabled = λ n.
    let low = (data_after cs s.at i h).0 in
    let high = data_close cs s.at i h in
    (low, omega (arith, high, al))

entries_spaced : (o : Order) (cs : List (List ℕ)) (align : ℕ → ℕ) (S : List Section) (l : ℕ) (s : State) (n : Names)
    → AreWell cs n → HaveAlignments align n → Every (IsTabled (TableClose S)) (entries o l s n)
    → Every (IsSpaced align) (entries o l s n)
entries_spaced o cs align S l s nothing h al t = tt
entries_spaced o cs align S l s (leaf name i rest) h al t = (
  item_spaced o cs align S l name s i (kept s.tables i) h.1 al.0 refl t.0,
  entries_spaced o cs align S (l + entry_len name) (after_file s i) rest h.2 al.1 t.1,
)
entries_spaced o cs align S l s (link name i rest) h al t = absurd h
entries_spaced o cs align S l s (subdirectory name i own rest) h al t = (
  (λ n. absurd (n refl)),
  entries_spaced o cs align S (l + entry_len name) (after_names (after_list s own) own) rest h.3 al.1 t.1,
)

below_spaced : (o : Order) (cs : List (List ℕ)) (align : ℕ → ℕ) (S : List Section) (s : State) (n : Names)
    → AreWell cs n → HaveAlignments align n → Every (IsTabled (TableClose S)) (below o s n)
    → Every (IsSpaced align) (below o s n)
below_spaced o cs align S s nothing h al t = tt
below_spaced o cs align S s (leaf name i rest) h al t = below_spaced o cs align S (after_file s i) rest h.2 al.1 t
below_spaced o cs align S s (link name i rest) h al t = absurd h
below_spaced o cs align S s (subdirectory name i own rest) h al t =
    let P = IsSpaced align in
    let T = IsTabled (TableClose S) in
    let s1 = after_list s own in
    let s2 = after_names s1 own in
    let es = entries o (pad4 s.at) s1 own in
    let mine = below o s1 own in
    let more = below o s2 rest in
    let both = every_right T es (mine ++ more) t in
    every_join P es (mine ++ more)
    (entries_spaced o cs align S (pad4 s.at) s1 own h.2 al.0 (every_left T es (mine ++ more) t))
    (every_join P mine more (below_spaced o cs align S s1 own h.2 al.0 (every_left T mine more both))
    (below_spaced o cs align S s2 rest h.3 al.1 (every_right T mine more both)))

-- a section is close to what is before it
abbrev IsCompact : List Section → (ℕ → ℕ) → Section → Type 0
IsCompact S align x = IsClose S (section_align align x.body) x.place

bytes_close : (S : List Section) (align : ℕ → ℕ) (index from start len : ℕ) (f : Fill) → IsEnd S from → from ≤ start
    → start < from + align_by align f → Every (IsCompact S align) (fill_section index start len f)
bytes_close S align index from start len no_bytes e l h = tt
bytes_close S align index from start len (text t) e l h = ((from, e, l, h), tt)
bytes_close S align index from start len (source k) e l h = ((from, e, l, h), tt)

tables_close : (S : List Section) (align : ℕ → ℕ) (earlier : List Item) (index : ℕ) (i : Item)
    → IsTabled (TableClose S) i → IsSpaced align i → EndsOf S i
    → Every (IsCompact S align) (table_sections earlier index i)
tables_close S align earlier index i t sp ends = elim (eqb_tells i.len 0) [
  | inl y ↦ rw y.0 tt
  | inr y ↦ rw y.0 (elim (has_table earlier i.table) as (λ c. Every (IsCompact S align)
      (if c then [] else section i.table (4 * block_count i.len) (table_of index)
      ∷ fill_section index i.start i.len i.fill)) [
        | true ↦ tt
        | false ↦
            let n = y.1 in (
              (t n).0,
              bytes_close S align index (i.table + 4 * block_count i.len) i.start i.len i.fill (ends.1 n).0
                  (sp n).0 (sp n).1,
            )
      ])
]

sections_close : (S : List Section) (align : ℕ → ℕ) (earlier : List Item) (index : ℕ) (is : List Item)
    → Every (λ i. IsClose S 4 i.place) is → Every (IsTabled (TableClose S)) is → Every (IsSpaced align) is
    → Every (EndsOf S) is → Every (IsCompact S align) (sections_from earlier index is)
sections_close S align earlier index [] p t sp ends = tt
sections_close S align earlier index (i ∷ is) p t sp ends = (
  p.0,
  every_join (IsCompact S align) (table_sections earlier index i) (sections_from (i ∷ earlier) (index + 1) is)
      (tables_close S align earlier index i t.0 sp.0 ends.0)
      (sections_close S align (i ∷ earlier) (index + 1) is p.1 t.1 sp.1 ends.1),
)

put_has : (P : Section → Type 0) (s : Section) (ts : List Section) → P s ⊎ Has P ts → Has P (put_section s ts)
put_has P s [] (inl p) = inl p
put_has P s [] (inr h) = absurd h
put_has P s (t ∷ ts) h =
    elim (nat_lt s.place t.place) as (λ b. Has P (cond b (s ∷ t ∷ ts) (t ∷ put_section s ts))) [
      | true ↦ h
      | false ↦ elim h [
        | inl p ↦ inr (put_has P s ts (inl p))
        | inr k ↦ elim k [ inl q ↦ inl q | inr r ↦ inr (put_has P s ts (inr r)) ]
      ]
    ]

order_has : (P : Section → Type 0) (ss : List Section) → Has P ss → Has P (in_order ss)
order_has P [] h = absurd h
order_has P (s ∷ ss) (inl p) = put_has P s (in_order ss) (inl p)
order_has P (s ∷ ss) (inr h) = put_has P s (in_order ss) (inr (order_has P ss h))

-- the ends of sections that rise are behind their beginning
ends_behind : (at top e : ℕ) (ss : List Section) → SectionsRise at top ss → Has (Ends e) ss → at < e
ends_behind at top e [] r h = absurd h
ends_behind at top e (x ∷ xs) r (inl z) = let a = r.0 in let b = r.1 in omega (arith, z)
ends_behind at top e (x ∷ xs) r (inr h) =
    let a = r.0 in let c = ends_behind (x.place + x.len) top e xs r.2 h in omega arith

-- the sections in order, of which all ends behind `at` are known
ordered : (S : List Section) (align : ℕ → ℕ) (at top end : ℕ) (ss : List Section)
    → ((e : ℕ) → IsEnd S e → (e ≤ at) ⊎ Has (Ends e) ss) → SectionsRise at top ss → Every (IsCompact S align) ss
    → (e : ℕ) → IsEnd S e → end < e + 4096 → AreCompact align at end ss
ordered S align at top end [] known r c e is l = elim (known e is) [ inl k ↦ omega arith | inr k ↦ absurd k ]
ordered S align at top end (x ∷ xs) known r c e is l =
    let a = r.0 in
    let b = r.1 in
    let p = c.0 in
    let low = p.2 in
    let high = p.3 in (
      elim (known p.0 p.1) [
        | inl k ↦ omega arith
        | inr k ↦ elim k [
          | inl z ↦ absurd (omega (arith, z))
          | inr h ↦ absurd (let d = ends_behind (x.place + x.len) top p.0 xs r.2 h in omega arith)
        ]
      ],
      ordered S align (x.place + x.len) top end xs (λ f g. elim (known f g) [
        | inl k ↦ inl (omega arith)
        | inr k ↦ elim k [ inl z ↦ inl (omega (arith, z)) | inr h ↦ inr h ]
      ]) r.2 c.1 e is l,
    )

aligned_by : (align : ℕ → ℕ) (n : Names) → HaveAlignments align n → AreAlignedBy align n
aligned_by align nothing h = tt
aligned_by align (leaf name i after) h = ((λ k e. h.0 ∙ ap (align_by align) e), aligned_by align after h.1)
aligned_by align (link name i after) h = aligned_by align after h
aligned_by align (subdirectory name i own after) h = (aligned_by align own h.0, aligned_by align after h.1)

size_close : (S : List Section) (n : Names) (near : IsNear S (after_names (first_state n) n).at)
    → size_of n < near.0 + 4096
unfolding size_of
size_close S n near = let h = near.3 in omega arith

pub are_compact : (o : Order) (volume : List ℕ) (root : Inode) (n : Names) (cs : List (List ℕ)) (align : ℕ → ℕ)
    → IsPlanned volume root n cs → HaveAlignments align n
    → AreCompact align 0 (size_of n) (sections_of (items_of o root n))
are_compact o volume root n cs align h have =
    let al = aligned_by align n have in
    let s = first_state n in
    let es = entries o 76 s n in
    let bs = below o s n in
    let is = es ++ bs in
    let S = sections_from [] 1 is in
    let end_is : (i : Item) → Has (λ z. z ≡ i) is → (e : ℕ) → (OfItem (λ p l. p + l ≢ e) i → ⊥) → IsEnd S e =
    λ i k e no. elim (ends_or e S) [
      | inl x ↦ inr x
      | inr x ↦ absurd (no (has_of (OfItem (λ p l. p + l ≢ e)) is i k
          (of_items o volume root n cs align h al (λ p l. p + l ≢ e) x)))
    ] in
    let ends : Every (EndsOf S) is = every_of (EndsOf S) is (λ i k. (
      end_is i k (i.place + entry_len i.name) (λ z. z.0 refl),
      λ m. (
        end_is i k (i.table + 4 * block_count i.len) (λ z. (z.1 m).0 refl),
        end_is i k (i.start + i.len) (λ z. (z.1 m).1 refl),
      ),
    )) in
    let here = every_left (EndsOf S) es bs ends in
    let list = entries_close S o 76 s n (near_end S 76 (inl refl)) here in
    let walked = are_near S o cs 76 s n h.well list.1 here (every_right (EndsOf S) es bs ends) in
    let P : Item → Type 0 = λ i. IsClose S 4 i.place in
    let t = all_tabled o cs align (TableClose S) 76 s n h.well al walked.fresh_too tt in
    let spaced = every_join (IsSpaced align) es bs (entries_spaced o cs align S 76 s n h.well have t.here)
    (below_spaced o cs align S s n h.well have t.under) in
    let close = sections_close S align [] 1 is (every_join P es bs list.0 walked.places)
    (every_join (IsTabled (TableClose S)) es bs t.here t.under) spaced ends in
    let rises = rise o volume root n cs align h al in (
      omega arith,
      ordered S align 76 (size_of n) (size_of n) (in_order S)
          (λ e z. elim z [ inl y ↦ inl (omega (arith, y)) | inr y ↦ inr (order_has (Ends e) S y) ]) rises.2
          (order_every (IsCompact S align) S close) walked.near.0 walked.near.1 (size_close S n walked.near),
    )
