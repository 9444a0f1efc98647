-- The contents of a source occur once in a cramfs layout: files with one source have one table.
use Rattle.std.proofs.Common.{◌≡◌, ◌≢◌, ℕ, ◌+◌, ◌*◌, ◌==◌, ◌||◌, Bool, true, false, if◌then◌else◌, List, [], ◌∷◌, ◌++◌}
use Rattle.std.proofs.Common.{Some, None, refl, sym, ap, ◌∙◌, inl, inr}
use Rattle.std.proofs.lemmas.Bool.{eq-eqb}
use Rattle.std.proofs.lemmas.Bool.Decides.{eqb_tells}
use Rattle.std.specs.List.{AllByRecursion as Every}
use Rattle.record_forest.specs.Members.{Pairs}
use Rattle.record_forest.proofs.Lists.{every_weaker, every_join, every_of, pairs_join}
use Rattle.cramfs_format.specs.declared.order.Order.{Order}
use Rattle.cramfs_format.specs.Inode.{block_count}
use Rattle.manifest_tree.specs.Names.{Fill, no_bytes, text, source, Inode, Names, nothing, leaf, link, subdirectory}
use Rattle.manifest_tree.specs.Items.{Item, Section, section, record_of, table_of, contents_of, fill_section}
use Rattle.cramfs_layout.specs.Layout.{pad4, entry_len, State, Table, table_with, Kept, nowhere, shared, fresh, kept}
use Rattle.cramfs_layout.specs.Layout.{kept_by, kept_with, with_table, after_by, after_file, after_list, after_names}
use Rattle.cramfs_layout.specs.Items.{entries, below, kept_item, has_table, table_sections, sections_from}
use Rattle.cramfs_layout.proofs.Stored.{shared_by, none_by}
use Rattle.image_build.proofs.Differ.{Differ}

-- known tables stay
abbrev Stay : List Table → List Table → Type 0
Stay ts us = (k t : ℕ) → table_with ts k ≡ Some t → table_with us k ≡ Some t

-- an item's table is the one of its source
abbrev pub IsKnown : List Table → Item → Type 0
IsKnown ts i = (k : ℕ) → i.fill ≡ source k → i.len ≢ 0 → table_with ts k ≡ Some i.table

same_source : {j k : ℕ} → source j ≡ source k → j ≡ k
same_source e = cc

same_contents : {j k : ℕ} → contents_of j ≡ contents_of k → j ≡ k
same_contents e = cc

same_some : {j k : ℕ} → Some j ≡ Some k → j ≡ k
same_some e = cc

with_stay : (f : Fill) (p : ℕ) (ts : List Table) → ((k : ℕ) → f ≡ source k → table_with ts k ≡ None)
    → Stay ts (with_table f p ts)
with_stay no_bytes p ts n k t e = e
with_stay (text x) p ts n k t e = e
with_stay (source j) p ts n k t e = elim (eqb_tells j k) [
  | inl y ↦ let z : None ≡ Some t = sym (n k (ap source y.1)) ∙ e in absurd (cc)
  | inr y ↦ rw y.0 e
]

fresh_by : (ts : List Table) (f : Fill) (k : ℕ) → kept_by ts f ≡ fresh → f ≡ source k → table_with ts k ≡ None
fresh_by ts no_bytes k e g = absurd (cc)
fresh_by ts (text x) k e g = absurd (cc)
fresh_by ts (source j) k e g = ap (table_with ts) (sym (same_source g))
    ∙ elim (table_with ts j) as (λ o. kept_with o ≡ fresh → o ≡ None) [ None ↦ λ z. refl | Some u ↦ λ z. absurd (cc) ] e

kept_stay : (s : State) (i : Inode) (k : Kept) → kept s.tables i ≡ k → Stay s.tables (after_by k s i).tables
unfolding kept
kept_stay s i nowhere e = λ k t h. h
kept_stay s i (shared u) e = λ k t h. h
kept_stay s i fresh e = elim (eqb_tells i.size 0) [
  | inl y ↦ let z : nowhere ≡ fresh = (rw y.0 at e) in absurd (cc)
  | inr y ↦ with_stay i.fill (pad4 s.at) s.tables (λ k g. fresh_by s.tables i.fill k (rw y.0 at e) g)
]

kept_known : (o : Order) (l : ℕ) (name : List ℕ) (s : State) (i : Inode) (k : Kept) → kept s.tables i ≡ k
    → IsKnown (after_by k s i).tables (kept_item o l s.at name i k)
unfolding kept
kept_known o l name s i nowhere e j f n = elim (eqb_tells i.size 0) [
  | inl y ↦ absurd (n y.1)
  | inr y ↦ let z : source j ≡ no_bytes = sym f ∙ none_by s.tables i.fill (rw y.0 at e) in absurd (cc)
]
kept_known o l name s i (shared t) e j f n = elim (eqb_tells i.size 0) [
  | inl y ↦ absurd (n y.1)
  | inr y ↦
      let r = shared_by s.tables i.fill t (rw y.0 at e) in
      let same : j ≡ r.0 = same_source (sym f ∙ r.1) in
      ap (table_with s.tables) same ∙ r.2
]
kept_known o l name s i fresh e j f n =
    ap (λ (g : Fill). table_with (with_table g (pad4 s.at) s.tables) j) f
    ∙ ap (λ (b : Bool). if b then Some (pad4 s.at) else table_with s.tables j) (eq-eqb j j refl)

names_stay : (s : State) (n : Names) → Stay s.tables (after_names s n).tables
names_stay s nothing k t h = h
names_stay s (leaf name i rest) k t h =
    names_stay (after_file s i) rest k t (kept_stay s i (kept s.tables i) refl k t h)
names_stay s (link name i rest) k t h =
    names_stay (after_file s i) rest k t (kept_stay s i (kept s.tables i) refl k t h)
names_stay s (subdirectory name i own rest) k t h =
    names_stay (after_names (after_list s own) own) rest k t (names_stay (after_list s own) own k t h)

-- the tables of all items are those that are in the end
pub all_known : (ts : List Table) (o : Order) (l : ℕ) (s : State) (n : Names) → Stay (after_names s n).tables ts
    → Every (IsKnown ts) (entries o l s n) × Every (IsKnown ts) (below o s n)
all_known ts o l s nothing h = (tt, tt)
all_known ts o l s (leaf name i rest) h =
    let s1 = after_file s i in
    let more = all_known ts o (l + entry_len name) s1 rest h in
    ((λ k f n. h k _ (names_stay s1 rest k _ (kept_known o l name s i (kept s.tables i) refl k f n)), more.0), more.1)
all_known ts o l s (link name i rest) h =
    let s1 = after_file s i in
    let more = all_known ts o (l + entry_len name) s1 rest h in
    ((λ k f n. h k _ (names_stay s1 rest k _ (kept_known o l name s i (kept s.tables i) refl k f n)), more.0), more.1)
all_known ts o l s (subdirectory name i own rest) h =
    let s1 = after_list s own in
    let s2 = after_names s1 own in
    let mine = all_known ts o (pad4 s.at) s1 own (λ k t e. h k t (names_stay s2 rest k t e)) in
    let more = all_known ts o (l + entry_len name) s2 rest h in
    let bare : (k : ℕ) → no_bytes ≡ source k → ⊥ = λ k z. cc in (
      (λ k f n. absurd (bare k f), more.0),
      every_join (IsKnown ts) (entries o (pad4 s.at) s1 own) (below o s1 own ++ below o s2 rest) mine.0
          (every_join (IsKnown ts) (below o s1 own) (below o s2 rest) mine.1 more.1),
    )

-- a section of the contents of an item with a table that no earlier item has
abbrev IsOwn : List Item → Item → Section → Type 0
IsOwn earlier i x =
    (k : ℕ) → x.body ≡ contents_of k → (i.fill ≡ source k) × (i.len ≢ 0) × (has_table earlier i.table ≡ false)

-- a section of contents whose table no earlier item has
abbrev IsNew : List Table → List Item → Section → Type 0
IsNew ts earlier x =
    (k : ℕ) → x.body ≡ contents_of k → (t : ℕ) × (table_with ts k ≡ Some t) × (has_table earlier t ≡ false)

fill_own : (earlier : List Item) (i : Item) (index start len : ℕ) (f : Fill) → i.fill ≡ f → i.len ≢ 0
    → has_table earlier i.table ≡ false
    → Every (IsOwn earlier i) (fill_section index start len f) × Pairs Differ (fill_section index start len f)
fill_own earlier i index start len no_bytes e n h = (tt, tt)
fill_own earlier i index start len (text x) e n h = ((λ k z. absurd (cc), tt), (tt, tt))
fill_own earlier i index start len (source j) e n h = ((λ k z. (e ∙ ap source (same_contents z), n, h), tt), (tt, tt))

tables_own : (earlier : List Item) (index : ℕ) (i : Item)
    → Every (IsOwn earlier i) (table_sections earlier index i) × Pairs Differ (table_sections earlier index i)
tables_own earlier index i = elim (eqb_tells i.len 0) [
  | inl y ↦ rw y.0 (tt, tt)
  | inr y ↦ rw y.0 (by (has_table earlier i.table) refl y.1)
]
  where
    by : (b : Bool) → has_table earlier i.table ≡ b → i.len ≢ 0 → let ss =
        if b then [] else section i.table (4 * block_count i.len) (table_of index)
        ∷ fill_section index i.start i.len i.fill in Every (IsOwn earlier i) ss × Pairs Differ ss
    by true e n = (tt, tt)
    by false e n =
        let own = fill_own earlier i index i.start i.len i.fill refl n e in (
          (λ k z. absurd (cc), own.0),
          (
            every_of (Differ (section i.table (4 * block_count i.len) (table_of index)))
                (fill_section index i.start i.len i.fill) (λ y h k a b. absurd (cc)),
            own.1,
          ),
        )

or_false : (a b : Bool) → (a || b) ≡ false → (a ≡ false) × (b ≡ false)
or_false true b h = absurd (cc)
or_false false b h = (refl, h)

pub all_differ : (ts : List Table) (earlier : List Item) (index : ℕ) (is : List Item) → Every (IsKnown ts) is
    → Every (IsNew ts earlier) (sections_from earlier index is) × Pairs Differ (sections_from earlier index is)
all_differ ts earlier index [] h = (tt, tt)
all_differ ts earlier index (i ∷ is) h =
    let record_section = section i.place (entry_len i.name) (record_of index) in
    let own = table_sections earlier index i in
    let rest = sections_from (i ∷ earlier) (index + 1) is in
    let mine = tables_own earlier index i in
    let more = all_differ ts (i ∷ earlier) (index + 1) is h.1 in
    let mine_new : (x : Section) → IsOwn earlier i x → IsNew ts earlier x =
    λ x w k e. let z = w k e in (i.table, h.0 k z.0 z.1, z.2) in
    let more_new : (x : Section) → IsNew ts (i ∷ earlier) x → IsNew ts earlier x =
    λ x w k e. let z = w k e in (z.0, z.1, (or_false (i.table == z.0) (has_table earlier z.0) z.2).1) in
    let apart : (x y : Section) → IsOwn earlier i x → IsNew ts (i ∷ earlier) y → Differ x y = λ x y w v k a b.
    let z = w k a in
    let u = v k b in
    let same : i.table ≡ u.0 = same_some (sym (h.0 k z.0 z.1) ∙ u.1) in
    let yes : true ≡ false =
    sym (eq-eqb i.table u.0 same) ∙ (or_false (i.table == u.0) (has_table earlier u.0) u.2).0 in absurd (cc) in (
      (
        λ k z. absurd (cc),
        every_join (IsNew ts earlier) own rest
            (every_weaker (IsOwn earlier i) (IsNew ts earlier) mine_new own mine.0)
            (every_weaker (IsNew ts (i ∷ earlier)) (IsNew ts earlier) more_new rest more.0),
      ),
      (
        every_of (Differ record_section) (own ++ rest) (λ y w k a b. absurd (cc)),
        pairs_join Differ own rest mine.1 more.1
            (every_weaker (IsOwn earlier i) (λ x. Every (Differ x) rest)
            (λ x w. every_weaker (IsNew ts (i ∷ earlier)) (Differ x) (λ y v. apart x y w v) rest more.0) own mine.0),
      ),
    )
