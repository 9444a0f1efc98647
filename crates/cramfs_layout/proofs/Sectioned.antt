-- The sections of a layout rise, and none is empty.
use Rattle.std.proofs.Common.{◌≡◌, ◌≢◌, ℕ, zero, suc, ◌+◌, ◌*◌, ◌<◌, ◌≤◌, ◌==◌, ◌||◌, Bool, true, false, if◌then◌else◌}
use Rattle.std.proofs.Common.{◌⊎◌, inl, inr, List, [], ◌∷◌, ◌++◌, refl, sym, subst, ◌∙◌, arith}
use Rattle.std.proofs.lemmas.Bool.Decides.{eqb_tells}
use Rattle.std.specs.List.{AllByRecursion as Every}
use Rattle.rom_fields.specs.declared.span.Extent.TheVariants.{List as ListOf, Table as TableOf}
use Rattle.rom_fields.specs.declared.span.Span.{Span}
use Rattle.rom_fields.specs.Extents.{added}
use Rattle.record_forest.specs.Members.{Has, Pairs}
use Rattle.record_forest.proofs.Lists.{every_weaker, every_join, every_left, every_right, every_both, every_of}
use Rattle.record_forest.proofs.Lists.{has_every, has_weaker, pairs_pick, pairs_join}
use Rattle.cramfs_format.specs.declared.order.Order.{Order}
use Rattle.cramfs_format.specs.Inode.{block_count}
use Rattle.rom_fields.proofs.Climbs.{Climbs, climbs_added}
use Rattle.manifest_tree.specs.Names.{Fill, no_bytes, text, source, Inode, Names}
use Rattle.manifest_tree.specs.Items.{Item, Section, SectionsRise, record_of, table_of, section, fill_section}
use Rattle.manifest_tree.proofs.Sections.{AreApart, LiesIn, order_rises}
use Rattle.cramfs_layout.specs.Layout.{entry_len, list_len, size_of, after_names, first_state}
use Rattle.cramfs_layout.specs.Items.{AreAlignedBy, entries, below, items_of, has_table, table_sections, sections_from}
use Rattle.cramfs_layout.specs.Items.{sections_of}
use Rattle.cramfs_layout.specs.Planned.{IsPlanned}
use Rattle.rom_fields.proofs.Padding.{pad-after}
use Rattle.cramfs_layout.proofs.Extents.{climbs_from}
use Rattle.cramfs_layout.proofs.Stored.{names_onward}
use Rattle.cramfs_layout.proofs.Regions.{regions, regions_climb, Places, places_join, entries_place, below_place}
use Rattle.cramfs_layout.proofs.Regions.{IsListed, IsAmong, own_listed, below_listed, StandsFor, regions_fresh}
use Rattle.cramfs_layout.proofs.Tabled.{IsTabled, all_tabled}

-- a section within one of some regions that D has
abbrev Within : List Span → (Span → Type 0) → Section → Type 0
Within V D x = Has (λ b. D b × (b.start ≤ x.place) × (x.place + x.len ≤ b.start + b.len)) V

abbrev OfList : Span → Type 0
OfList b = b.kind ≡ ListOf

abbrev OfTable : ℕ → Span → Type 0
OfTable t b = (b.kind ≡ TableOf) × (b.start ≡ t)

-- regions are one after the other
abbrev Follows : Span → Span → Type 0
Follows x y = x.start + x.len ≤ y.start

climbs_top : (from to : ℕ) (V : List Span) → Climbs from to V → from ≤ to
climbs_top from to [] c = c
climbs_top from to (x ∷ xs) c = let a = c.0 in let b = climbs_top (x.start + x.len) to xs c.1 in omega arith

climbs_high : (from to : ℕ) (V : List Span) → Climbs from to V → Every (λ y. y.start + y.len ≤ to) V
climbs_high from to [] c = tt
climbs_high from to (x ∷ xs) c = (climbs_top (x.start + x.len) to xs c.1, climbs_high (x.start + x.len) to xs c.1)

climbs_follow : (from to : ℕ) (V : List Span) → Climbs from to V → Pairs Follows V
climbs_follow from to [] c = tt
climbs_follow from to (x ∷ xs) c = (climbs_from (x.start + x.len) to xs c.1, climbs_follow (x.start + x.len) to xs c.1)

-- sections of different regions are apart
apart_by : (V : List Span) (D E : Span → Type 0) (x y : Section) → Pairs Follows V → ((b : Span) → D b → E b → ⊥)
    → Within V D x → Within V E y → AreApart x y
apart_by V D E x y p n a b = elim (pairs_pick Follows
    (λ b. D b × (b.start ≤ x.place) × (x.place + x.len ≤ b.start + b.len))
    (λ b. E b × (b.start ≤ y.place) × (y.place + y.len ≤ b.start + b.len)) V p a b) [
      | inl s ↦ absurd (n s.0 s.1.0 s.2.0)
      | inr s ↦
          let x1 = s.2.1 in
          let x2 = s.2.2 in
          let y1 = s.3.1 in
          let y2 = s.3.2 in
          elim s.4 [ inl f ↦ inl (omega arith) | inr f ↦ inr (omega arith) ]
    ]

no_kind : ListOf ≡ TableOf → ⊥
no_kind e = cc

-- a section is a record at `from` or later, or of a table that no earlier item has
data Belongs (V : List Span) (from : ℕ) (earlier : List Item) (x : Section) : Type 0 where
  in_list : from ≤ x.place → 0 < x.len → Within V OfList x → Belongs V from earlier x
  in_table : (t : ℕ) → has_table earlier t ≡ false → 0 < x.len → Within V (OfTable t) x → Belongs V from earlier x

or_false : (a b : Bool) → (a || b) ≡ false → (a ≡ false) × (b ≡ false)
or_false true b h = absurd (cc)
or_false false b h = (refl, h)

-- with fewer earlier items, and from further down
belongs_later : (V : List Span) (from up : ℕ) (earlier : List Item) (i : Item) (x : Section) → from ≤ up
    → Belongs V up (i ∷ earlier) x → Belongs V from earlier x
belongs_later V from up earlier i x l (in_list a n w) = in_list (omega arith) n w
belongs_later V from up earlier i x l (in_table t e n w) =
    in_table t (or_false (i.table == t) (has_table earlier t) e).1 n w

-- numbers that differ
other_table : (t u : ℕ) → (t == u) ≡ false → t ≢ u
other_table t u e z = elim (eqb_tells t u) [ inl s ↦ let w : true ≡ false = sym s.0 ∙ e in absurd (cc) | inr s ↦ s.1 z ]

-- a section of the table of an item, or of the bytes behind it
abbrev OwnOf : List Span → ℕ → Section → Type 0
OwnOf V t x = (0 < x.len) × Within V (OfTable t) x

record TableSound (V : List Span) (earlier : List Item) (t : ℕ) (ss : List Section) : Type 0 where
  own : Every (OwnOf V t) ss
  none : (ss ≡ []) ⊎ (has_table earlier t ≡ false)
  apart : Pairs AreApart ss

-- some member has what holds of one
some_of : {X : Type 0} (P : X → Type 0) → (xs : List X) → Has P xs → (x : X) × P x
some_of P [] h = absurd h
some_of P (x ∷ xs) (inl p) = (x, p)
some_of P (x ∷ xs) (inr h) = some_of P xs h

-- a region of a table of so many bytes at t, with its blocks at d
abbrev Stands : ℕ → ℕ → ℕ → Span → Type 0
Stands t d len b = (b.kind ≡ TableOf) × (b.start ≡ t) × (t + 4 * block_count len ≤ d) × (d + len ≤ b.start + b.len)

positive : (n : ℕ) → n ≢ 0 → 0 < n
positive zero z = absurd (z refl)
positive (suc n) z = omega arith

some_pointers : (n : ℕ) → n ≢ 0 → 0 < 4 * block_count n
some_pointers zero z = absurd (z refl)
some_pointers (suc n) z = omega arith

bytes_within : (V : List Span) (t d len : ℕ) → StandsFor V t d len
    → Has (λ b. OfTable t b × (b.start ≤ d) × (d + len ≤ b.start + b.len)) V
bytes_within V t d len s = has_weaker (Stands t d len)
    (λ (b : Span). OfTable t b × (b.start ≤ d) × (d + len ≤ b.start + b.len))
    (λ b k. let q = k.1 in let u = k.2 in ((k.0, k.1), omega (arith, q), k.3)) V s

bytes_own : (V : List Span) (index t d len : ℕ) (f : Fill) → len ≢ 0 → StandsFor V t d len
    → Every (OwnOf V t) (fill_section index d len f)
bytes_own V index t d len no_bytes n s = tt
bytes_own V index t d len (text x) n s = ((positive len n, bytes_within V t d len s), tt)
bytes_own V index t d len (source j) n s = ((positive len n, bytes_within V t d len s), tt)

alone_apart : (index start len : ℕ) (f : Fill) → Pairs AreApart (fill_section index start len f)
alone_apart index start len no_bytes = tt
alone_apart index start len (text x) = (tt, tt)
alone_apart index start len (source k) = (tt, tt)

-- the table is before the bytes
table_before : (index start len place size : ℕ) (f : Fill) → place + size ≤ start
    → Every (AreApart (section place size (table_of index))) (fill_section index start len f)
table_before index start len place size no_bytes l = tt
table_before index start len place size (text x) l = (inl l, tt)
table_before index start len place size (source k) l = (inl l, tt)

own_sections : (V : List Span) (index : ℕ) (earlier : List Item) (t d len : ℕ) (f : Fill) (b : Bool) → len ≢ 0
    → StandsFor V t d len → has_table earlier t ≡ b
    → TableSound V earlier t (if b then []
    else section t (4 * block_count len) (table_of index) ∷ fill_section index d len f)
own_sections V index earlier t d len f true n s e = record { own = tt; none = inl refl; apart = tt }
own_sections V index earlier t d len f false n s e =
    let table_in = has_weaker (Stands t d len)
    (λ (b : Span). OfTable t b × (b.start ≤ t) × (t + 4 * block_count len ≤ b.start + b.len))
    (λ b k. let q = k.1 in let u = k.2 in let v = k.3 in ((k.0, k.1), omega (arith, q), omega arith)) V s in
    record {
      own = ((some_pointers len n, table_in), bytes_own V index t d len f n s);
      none = inr e;
      apart = (
        table_before index d len t (4 * block_count len) f (some_of (Stands t d len) V s).1.2,
        alone_apart index d len f,
      );
    }

-- the table and the bytes of an item, if no earlier item has the table
tables_sound : (V : List Span) (index : ℕ) (earlier : List Item) (i : Item) → IsTabled (StandsFor V) i
    → TableSound V earlier i.table (table_sections earlier index i)
tables_sound V index earlier i h = elim (i.len == 0) as
    (λ c. (i.len == 0) ≡ c → TableSound V earlier i.table
    (if c || has_table earlier i.table then []
    else section i.table (4 * block_count i.len) (table_of index)
    ∷ (if c then [] else fill_section index i.start i.len i.fill))) [
      | true ↦ λ e. record { own = tt; none = inl refl; apart = tt }
      | false ↦ λ e. let n = other_table i.len 0 e in own_sections V index earlier i.table i.start i.len i.fill
          (has_table earlier i.table) n (h n) refl
    ] refl

nothing_every : (P : Section → Type 0) (ss : List Section) → ss ≡ [] → Every P ss
nothing_every P ss e = subst (Every P) (sym e) tt

tables_belong : (V : List Span) (from : ℕ) (earlier : List Item) (t : ℕ) (ss : List Section)
    → TableSound V earlier t ss → Every (Belongs V from earlier) ss
tables_belong V from earlier t ss s = elim s.none [
  | inl e ↦ nothing_every (Belongs V from earlier) ss e
  | inr e ↦ every_weaker (OwnOf V t) (Belongs V from earlier) (λ x k. in_table t e k.0 k.1) ss s.own
]

-- a record, and a section that belongs behind it
record_apart : (V : List Span) (up : ℕ) (earlier : List Item) (x y : Section) → Pairs Follows V → x.place + x.len ≤ up
    → Within V OfList x → Belongs V up earlier y → AreApart x y
record_apart V up earlier x y p l w (in_list a n v) = inl (omega arith)
record_apart V up earlier x y p l w (in_table t e n v) =
    apart_by V OfList (OfTable t) x y p (λ b c d. no_kind (sym c ∙ d.0)) w v

-- a section of an item's table, and one that belongs behind that item
own_apart : (V : List Span) (up : ℕ) (earlier : List Item) (i : Item) (x y : Section) → Pairs Follows V
    → OwnOf V i.table x → Belongs V up (i ∷ earlier) y → AreApart x y
own_apart V up earlier i x y p o (in_list a n v) =
    apart_by V (OfTable i.table) OfList x y p (λ b c d. no_kind (sym d ∙ c.0)) o.1 v
own_apart V up earlier i x y p o (in_table t e n v) =
    let n' = other_table i.table t (or_false (i.table == t) (has_table earlier t) e).0 in
    apart_by V (OfTable i.table) (OfTable t) x y p (λ b c d. n' (sym c.1 ∙ d.1)) o.1 v

record Sound (V : List Span) (from : ℕ) (earlier : List Item) (ss : List Section) : Type 0 where
  belong : Every (Belongs V from earlier) ss
  apart : Pairs AreApart ss

all_sound : (V : List Span) (from to index : ℕ) (earlier is : List Item) → Pairs Follows V → Places from to is
    → Every (IsListed V) is → Every (IsTabled (StandsFor V)) is → Sound V from earlier (sections_from earlier index is)
all_sound V from to index earlier [] p a l t = record { belong = tt; apart = tt }
all_sound V from to index earlier (i ∷ is) p a l t =
    let up = i.place + entry_len i.name in
    let low = a.0 in
    let rec = section i.place (entry_len i.name) (record_of index) in
    let own = table_sections earlier index i in
    let rest = sections_from (i ∷ earlier) (index + 1) is in
    let mine = tables_sound V index earlier i t.0 in
    let more = all_sound V up to (index + 1) (i ∷ earlier) is p a.1 l.1 t.1 in
    record {
      belong = (
        in_list low (omega arith) l.0,
        every_join (Belongs V from earlier) own rest (tables_belong V from earlier i.table own mine)
            (every_weaker (Belongs V up (i ∷ earlier)) (Belongs V from earlier)
            (λ x k. belongs_later V from up earlier i x (omega arith) k) rest more.belong),
      );
      apart = (
        every_join (AreApart rec) own rest
            (every_weaker (OwnOf V i.table) (AreApart rec)
            (λ x k. apart_by V OfList (OfTable i.table) rec x p
            (λ b c d. no_kind (sym c ∙ d.0)) l.0 k.1) own mine.own)
            (every_weaker (Belongs V up (i ∷ earlier)) (AreApart rec)
            (λ x k. record_apart V up (i ∷ earlier) rec x p (omega arith) l.0 k) rest more.belong),
        pairs_join AreApart own rest mine.apart more.apart
            (every_weaker (OwnOf V i.table) (λ x. Every (AreApart x) rest)
            (λ x o. every_weaker (Belongs V up (i ∷ earlier)) (AreApart x)
            (λ y k. own_apart V up earlier i x y p o k) rest more.belong) own mine.own),
      );
    }

-- what lies within regions lies between their ends
between : (V : List Span) (low high : ℕ) (D : Span → Type 0) (x : Section) → Every (λ b. low ≤ b.start) V
    → Every (λ b. b.start + b.len ≤ high) V → 0 < x.len → Within V D x → LiesIn low high x
between V low high D x a c n w =
    let s = has_every (λ (b : Span). (low ≤ b.start) × (b.start + b.len ≤ high))
    (λ (b : Span). D b × (b.start ≤ x.place) × (x.place + x.len ≤ b.start + b.len)) V
    (every_both (λ (b : Span). low ≤ b.start) (λ (b : Span). b.start + b.len ≤ high) V a c) w in
    let s1 = s.1.0 in
    let s2 = s.1.1 in
    let s3 = s.2.1 in
    let s4 = s.2.2 in
    (omega arith, n, omega arith)

lies : (V : List Span) (low high from : ℕ) (earlier : List Item) (x : Section) → Every (λ b. low ≤ b.start) V
    → Every (λ b. b.start + b.len ≤ high) V → Belongs V from earlier x → LiesIn low high x
lies V low high from earlier x a c (in_list l n w) = between V low high OfList x a c n w
lies V low high from earlier x a c (in_table t e n w) = between V low high (OfTable t) x a c n w

pub rise : (o : Order) (volume : List ℕ) (root : Inode) (n : Names) (cs : List (List ℕ)) (A : ℕ → ℕ)
    → IsPlanned volume root n cs → AreAlignedBy A n → SectionsRise 0 (size_of n) (sections_of (items_of o root n))
unfolding size_of
rise o volume root n cs A h al =
    let s = first_state n in
    let end = (after_names s n).at in
    let top : end ≤ size_of n = pad-after end 4096 (omega arith) in
    let V = added ListOf 76 (list_len n) ++ regions s n in
    let climbs = climbs_added ListOf 76 76 (list_len n) end (regions s n) (omega arith) (regions_climb cs s n h.well) in
    let follow = climbs_follow 76 end V climbs in
    let among = every_of (IsAmong V) V (λ b k. k) in
    let front = every_left (IsAmong V) (added ListOf 76 (list_len n)) (regions s n) among in
    let back = every_right (IsAmong V) (added ListOf 76 (list_len n)) (regions s n) among in
    let es = entries o 76 s n in
    let bs = below o s n in
    let places = places_join 76 s.at end es bs (entries_place o 76 s n) (below_place o cs s n h.well) in
    let listed =
    every_join (IsListed V) es bs (own_listed o V 76 (list_len n) s n refl front) (below_listed o V s n back) in
    let t = all_tabled o cs A (StandsFor V) 76 s n h.well al (regions_fresh cs V s n h.well back) tt in
    let tabled = every_join (IsTabled (StandsFor V)) es bs t.here t.under in
    let sound = all_sound V 76 end 1 [] (es ++ bs) follow places listed tabled in
    let ss = sections_from [] 1 (es ++ bs) in
    let inside = every_weaker (Belongs V 76 []) (LiesIn 76 (size_of n))
    (λ x k. lies V 76 (size_of n) 76 [] x (climbs_from 76 end V climbs)
    (every_weaker (λ (b : Span). b.start + b.len ≤ end) (λ (b : Span). b.start + b.len ≤ size_of n)
    (λ b l. omega arith) V (climbs_high 76 end V climbs)) k) ss sound.belong in
    let low = names_onward cs s n h.well in
    (omega arith, omega arith, order_rises 76 (size_of n) ss (omega arith) inside sound.apart)
