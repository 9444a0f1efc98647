-- The regions of the items of a layout, with their tables and bytes.
use Rattle.std.proofs.Common.{◌≡◌, ◌≢◌, ℕ, zero, suc, ◌+◌, ◌-◌, ◌*◌, ◌≤◌, List, [], ◌∷◌, ◌++◌, refl, sym, subst, arith}
use Rattle.std.proofs.Common.{inl, inr}
use Rattle.std.specs.List.{AllByRecursion as Every}
use Rattle.rom_fields.specs.declared.span.Extent.TheVariants.{List as ListOf, Table as TableOf}
use Rattle.rom_fields.specs.declared.span.Span.{Span}
use Rattle.rom_fields.specs.Extents.{added}
use Rattle.record_forest.specs.Members.{Has}
use Rattle.record_forest.proofs.Lists.{every_join, every_left, every_right}
use Rattle.cramfs_format.specs.declared.order.Order.{Order}
use Rattle.cramfs_format.specs.Inode.{block_count}
use Rattle.rom_fields.proofs.Climbs.{Climbs, climbs_added}
use Rattle.manifest_tree.specs.Names.{Inode, Names, nothing, leaf, link, subdirectory}
use Rattle.manifest_tree.specs.Items.{Item}
use Rattle.cramfs_layout.specs.Layout.{pad4, entry_len, list_len, State, Kept, nowhere, shared, fresh, kept, data_of}
use Rattle.cramfs_layout.specs.Layout.{after_by, after_file, after_list, after_names}
use Rattle.cramfs_layout.specs.Items.{entries, below}
use Rattle.cramfs_layout.specs.Wells.{IsFile, AreWell}
use Rattle.cramfs_layout.proofs.Stored.{data_after, file_onward}
use Rattle.cramfs_layout.proofs.Extents.{climbs_join}
use Rattle.cramfs_layout.proofs.Tabled.{FileFresh, AllFresh}

-- what is placed after s, in the layout's order: lists, and tables with their blocks
abbrev pub file_region : Kept → State → Inode → List Span
file_region nowhere s i = []
file_region (shared t) s i = []
file_region fresh s i = added TableOf (pad4 s.at) (data_of s.at i + i.size - pad4 s.at)

abbrev pub regions : State → Names → List Span
regions s nothing = []
regions s (leaf name i rest) = file_region (kept s.tables i) s i ++ regions (after_file s i) rest
regions s (link name i rest) = file_region (kept s.tables i) s i ++ regions (after_file s i) rest
regions s (subdirectory name i own rest) =
    added ListOf (pad4 s.at) (list_len own)
    ++ (regions (after_list s own) own ++ regions (after_names (after_list s own) own) rest)

file_climbs : (cs : List (List ℕ)) (s : State) (i : Inode) (k : Kept) (to : ℕ) (more : List Span) → IsFile cs i
    → Climbs (after_by k s i).at to more → Climbs s.at to (file_region k s i ++ more)
file_climbs cs s i nowhere to more h c = c
file_climbs cs s i (shared t) to more h c = c
file_climbs cs s i fresh to more h c =
    let d = (data_after cs s.at i h).0 in
    let e : data_of s.at i + i.size ≡ pad4 s.at + (data_of s.at i + i.size - pad4 s.at) = omega (arith, d) in
    climbs_added TableOf s.at (pad4 s.at) (data_of s.at i + i.size - pad4 s.at) to more (omega arith)
    (subst (λ (v : ℕ). Climbs v to more) e c)

pub regions_climb : (cs : List (List ℕ)) (s : State) (n : Names) → AreWell cs n
    → Climbs s.at (after_names s n).at (regions s n)
regions_climb cs s nothing h = omega arith
regions_climb cs s (leaf name i rest) h =
    file_climbs cs s i (kept s.tables i) (after_names (after_file s i) rest).at (regions (after_file s i) rest) h.1
    (regions_climb cs (after_file s i) rest h.2)
regions_climb cs s (link name i rest) h = absurd h
regions_climb cs s (subdirectory name i own rest) h =
    let s1 = after_list s own in
    let s2 = after_names s1 own in
    let t = (after_names s2 rest).at in
    climbs_added ListOf s.at (pad4 s.at) (list_len own) t (regions s1 own ++ regions s2 rest) (omega arith)
    (climbs_join s1.at s2.at t (regions s1 own) (regions s2 rest) (regions_climb cs s1 own h.2)
    (regions_climb cs s2 rest h.3))

-- items whose records are one after the other
abbrev pub Places : ℕ → ℕ → List Item → Type 0
Places from to [] = from ≤ to
Places from to (i ∷ is) = (from ≤ i.place) × Places (i.place + entry_len i.name) to is

pub places_later : (from up to : ℕ) (is : List Item) → from ≤ up → Places up to is → Places from to is
places_later from up to [] h k = omega arith
places_later from up to (i ∷ is) h k = let l = k.0 in (omega arith, k.1)

places_end : (from to end : ℕ) (is : List Item) → to ≤ end → Places from to is → Places from end is
places_end from to end [] h k = omega arith
places_end from to end (i ∷ is) h k = (k.0, places_end (i.place + entry_len i.name) to end is h k.1)

pub places_join : (from mid to : ℕ) (is js : List Item) → Places from mid is → Places mid to js
    → Places from to (is ++ js)
places_join from mid to [] js h k = places_later from mid to js h k
places_join from mid to (i ∷ is) js h k = (h.0, places_join (i.place + entry_len i.name) mid to is js h.1 k)

pub entries_place : (o : Order) (l : ℕ) (s : State) (n : Names) → Places l (l + list_len n) (entries o l s n)
entries_place o l s nothing = omega arith
entries_place o l s (leaf name i rest) = (
  omega arith,
  places_end (l + entry_len name) (l + entry_len name + list_len rest)
      (l + (entry_len name + list_len rest)) (entries o (l + entry_len name) (after_file s i) rest) (omega arith)
      (entries_place o (l + entry_len name) (after_file s i) rest),
)
entries_place o l s (link name i rest) = (
  omega arith,
  places_end (l + entry_len name) (l + entry_len name + list_len rest)
      (l + (entry_len name + list_len rest)) (entries o (l + entry_len name) (after_file s i) rest) (omega arith)
      (entries_place o (l + entry_len name) (after_file s i) rest),
)
entries_place o l s (subdirectory name i own rest) =
    let s2 = after_names (after_list s own) own in (
      omega arith,
      places_end (l + entry_len name) (l + entry_len name + list_len rest)
          (l + (entry_len name + list_len rest)) (entries o (l + entry_len name) s2 rest) (omega arith)
          (entries_place o (l + entry_len name) s2 rest),
    )

pub below_place : (o : Order) (cs : List (List ℕ)) (s : State) (n : Names) → AreWell cs n
    → Places s.at (after_names s n).at (below o s n)
below_place o cs s nothing h = omega arith
below_place o cs s (leaf name i rest) h =
    places_later s.at (after_file s i).at (after_names (after_file s i) rest).at (below o (after_file s i) rest)
    (file_onward cs s i h.1) (below_place o cs (after_file s i) rest h.2)
below_place o cs s (link name i rest) h = absurd h
below_place o cs s (subdirectory name i own rest) h =
    let s1 = after_list s own in
    let s2 = after_names s1 own in
    let t = (after_names s2 rest).at in
    let q = pad4 s.at in
    let es = entries o q s1 own in
    places_join s.at s1.at t es (below o s1 own ++ below o s2 rest)
    (places_later s.at q s1.at es (omega arith) (entries_place o q s1 own))
    (places_join s1.at s2.at t (below o s1 own) (below o s2 rest) (below_place o cs s1 own h.2)
    (below_place o cs s2 rest h.3))

-- one of these regions, a list, has the record of the item
abbrev pub IsListed : List Span → Item → Type 0
IsListed V i = Has (λ b. (b.kind ≡ ListOf) × (b.start ≤ i.place) × (i.place + entry_len i.name ≤ b.start + b.len)) V

abbrev pub IsAmong : List Span → Span → Type 0
IsAmong V b = Has (λ z. z ≡ b) V

has_as : {X : Type 0} (P : X → Type 0) (xs : List X) (x : X) → Has (λ z. z ≡ x) xs → P x → Has P xs
has_as P [] x h p = h
has_as P (y ∷ ys) x (inl e) p = inl (subst P (sym e) p)
has_as P (y ∷ ys) x (inr h) p = inr (has_as P ys x h p)

pub entries_listed : (o : Order) (V : List Span) (b : Span) (l : ℕ) (s : State) (n : Names) → IsAmong V b
    → b.kind ≡ ListOf → b.start ≤ l → l + list_len n ≤ b.start + b.len → Every (IsListed V) (entries o l s n)
entries_listed o V b l s nothing a k low high = tt
entries_listed o V b l s (leaf name i rest) a k low high = (
  has_as (λ (c : Span). (c.kind ≡ ListOf) × (c.start ≤ l) × (l + entry_len name ≤ c.start + c.len)) V b a
      (k, low, omega arith),
  entries_listed o V b (l + entry_len name) (after_file s i) rest a k (omega arith)
      (omega arith),
)
entries_listed o V b l s (link name i rest) a k low high = (
  has_as (λ (c : Span). (c.kind ≡ ListOf) × (c.start ≤ l) × (l + entry_len name ≤ c.start + c.len)) V b a
      (k, low, omega arith),
  entries_listed o V b (l + entry_len name) (after_file s i) rest a k (omega arith)
      (omega arith),
)
entries_listed o V b l s (subdirectory name i own rest) a k low high = (
  has_as (λ (c : Span). (c.kind ≡ ListOf) × (c.start ≤ l) × (l + entry_len name ≤ c.start + c.len)) V b a
      (k, low, omega arith),
  entries_listed o V b (l + entry_len name) (after_names (after_list s own) own) rest a k
      (omega arith) (omega arith),
)

-- a list that is not empty, among the regions
pub own_listed : (o : Order) (V : List Span) (q len : ℕ) (s : State) (own : Names) → list_len own ≡ len
    → Every (IsAmong V) (added ListOf q len) → Every (IsListed V) (entries o q s own)
own_listed o V q len s nothing e h = tt
own_listed o V q zero s (leaf name i rest) e h = absurd (omega (arith, e))
own_listed o V q zero s (link name i rest) e h = absurd (omega (arith, e))
own_listed o V q zero s (subdirectory name i own rest) e h = absurd (omega (arith, e))
own_listed o V q (suc k) s (leaf name i rest) e h =
    entries_listed o V (record { kind = ListOf; start = q; len = suc k }) q s (leaf name i rest) h.0 refl (omega arith)
    (omega (arith, e))
own_listed o V q (suc k) s (link name i rest) e h =
    entries_listed o V (record { kind = ListOf; start = q; len = suc k }) q s (link name i rest) h.0 refl (omega arith)
    (omega (arith, e))
own_listed o V q (suc k) s (subdirectory name i own rest) e h =
    entries_listed o V (record { kind = ListOf; start = q; len = suc k }) q s (subdirectory name i own rest) h.0 refl
    (omega arith) (omega (arith, e))

pub below_listed : (o : Order) (V : List Span) (s : State) (n : Names) → Every (IsAmong V) (regions s n)
    → Every (IsListed V) (below o s n)
below_listed o V s nothing h = tt
below_listed o V s (leaf name i rest) h =
    below_listed o V (after_file s i) rest
    (every_right (IsAmong V) (file_region (kept s.tables i) s i) (regions (after_file s i) rest) h)
below_listed o V s (link name i rest) h =
    below_listed o V (after_file s i) rest
    (every_right (IsAmong V) (file_region (kept s.tables i) s i) (regions (after_file s i) rest) h)
below_listed o V s (subdirectory name i own rest) h =
    let s1 = after_list s own in
    let s2 = after_names s1 own in
    let front = added ListOf (pad4 s.at) (list_len own) in
    let both = every_right (IsAmong V) front (regions s1 own ++ regions s2 rest) h in
    every_join (IsListed V) (entries o (pad4 s.at) s1 own) (below o s1 own ++ below o s2 rest)
    (own_listed o V (pad4 s.at) (list_len own) s1 own refl
    (every_left (IsAmong V) front (regions s1 own ++ regions s2 rest) h))
    (every_join (IsListed V) (below o s1 own) (below o s2 rest)
    (below_listed o V s1 own (every_left (IsAmong V) (regions s1 own) (regions s2 rest) both))
    (below_listed o V s2 rest (every_right (IsAmong V) (regions s1 own) (regions s2 rest) both)))

-- a table of so many bytes at t, its blocks at d, in one of these regions
abbrev pub StandsFor : List Span → ℕ → ℕ → ℕ → Type 0
StandsFor V t d len =
    Has (λ b. (b.kind ≡ TableOf) × (b.start ≡ t) × (t + 4 * block_count len ≤ d) × (d + len ≤ b.start + b.len)) V

-- the region of a file that has its own table
fresh_stands : (V : List Span) (t d len size : ℕ) → t + 4 * block_count size ≤ d → size ≢ 0 → d + size - t ≡ len
    → Every (IsAmong V) (added TableOf t len) → StandsFor V t d size
fresh_stands V t d zero size l n e h = absurd (n (omega (arith, l, e)))
fresh_stands V t d (suc k) size l n e h =
    has_as (λ (b : Span). (b.kind ≡ TableOf) × (b.start ≡ t) × (t + 4 * block_count size ≤ d)
    × (d + size ≤ b.start + b.len)) V (record { kind = TableOf; start = t; len = suc k }) h.0
    (refl, refl, l, omega (arith, e, l))

file_fresh : (cs : List (List ℕ)) (V : List Span) (s : State) (i : Inode) (k : Kept) → IsFile cs i
    → Every (IsAmong V) (file_region k s i) → FileFresh (StandsFor V) s i k
file_fresh cs V s i nowhere h r = tt
file_fresh cs V s i (shared t) h r = tt
file_fresh cs V s i fresh h r = λ n. fresh_stands V (pad4 s.at) (data_of s.at i)
    (data_of s.at i + i.size - pad4 s.at) i.size (data_after cs s.at i h).0 n refl r

pub regions_fresh : (cs : List (List ℕ)) (V : List Span) (s : State) (n : Names) → AreWell cs n
    → Every (IsAmong V) (regions s n)
    → AllFresh (StandsFor V) s n
regions_fresh cs V s nothing h r = tt
regions_fresh cs V s (leaf name i rest) h r =
    let k = kept s.tables i in
    let region = file_region k s i in
    let more = regions (after_file s i) rest in (
      file_fresh cs V s i k h.1 (every_left (IsAmong V) region more r),
      regions_fresh cs V (after_file s i) rest h.2 (every_right (IsAmong V) region more r),
    )
regions_fresh cs V s (link name i rest) h r = absurd h
regions_fresh cs V s (subdirectory name i own rest) h r =
    let s1 = after_list s own in
    let s2 = after_names s1 own in
    let both =
    every_right (IsAmong V) (added ListOf (pad4 s.at) (list_len own)) (regions s1 own ++ regions s2 rest) r in (
      regions_fresh cs V s1 own h.2 (every_left (IsAmong V) (regions s1 own) (regions s2 rest) both),
      regions_fresh cs V s2 rest h.3 (every_right (IsAmong V) (regions s1 own) (regions s2 rest) both),
    )
