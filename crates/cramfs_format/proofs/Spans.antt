-- The extents of an image as a set, and as the list that the rows of a forest give.
use Rattle.std.proofs.Common.{◌≡◌, ◌≢◌, ℕ, zero, suc, ◌+◌, ◌-◌, ◌*◌, ◌<◌, min, true, false, List, [], ◌∷◌, ◌++◌, inl}
use Rattle.std.proofs.Common.{inr, refl, sym, ap, subst, ◌∙◌, arith, if◌then◌else◌}
use Rattle.std.proofs.lemmas.Bool.{false≢true}
use Rattle.std.proofs.lemmas.Bool.Decides.{eqb_tells}
use Rattle.std.specs.List.{flat_map, AllByRecursion as Every}
use Rattle.rom_fields.specs.declared.span.Extent.TheVariants.{Super, List as ListOf, Table, Data}
use Rattle.rom_fields.specs.declared.span.Span.{Span}
use Rattle.rom_fields.specs.Extents.{is_shareable, OverlapsAt, added}
use Rattle.rom_fields.specs.declared.fault.Fault.{Fault}
use Rattle.record_forest.specs.declared.reference.Row.{Row}
use Rattle.record_forest.specs.Members.{Has, Pairs}
use Rattle.record_forest.proofs.Lists.{every_join, every_weaker, every_all, has_every, has_left, has_right, pairs_join}
use Rattle.record_forest.proofs.Spans.{NotTwin, overlaps_in, overlaps_of, pairs_flat, every_added, pairs_added}
use Rattle.record_forest.proofs.Spans.{has_added, has_flat, every_flat}
use Rattle.cramfs_format.specs.Order.{word}
use Rattle.cramfs_format.specs.declared.order.Order.{Order}
use Rattle.cramfs_format.specs.Inode.{size_of, type_of, offset_of, has_data, block_count, block_start}
use Rattle.cramfs_format.specs.Tree.{data_from, file_extents, row_extents, extents_of}
use Rattle.cramfs_format.specs.Faults.{IsReached, IsExtent, superblock, list_of, table_of, block_of, HasExtentFault}

-- the lists of two directories, if they are not empty, begin at different offsets
abbrev pub ListsApart : Order → List ℕ → Row → Row → Type 0
ListsApart o b x y =
    type_of o b x.offset ≡ 4 → type_of o b y.offset ≡ 4 → 0 < size_of o b x.offset
    → offset_of o b x.offset ≡ offset_of o b y.offset → 0 < size_of o b y.offset → ⊥

-- a row's extents: its list, or what may be shared
data IsOf (o : Order) (b : List ℕ) (x : Row) (s : Span) : Type 0 where
  of_list : type_of o b x.offset ≡ 4 → 0 < size_of o b x.offset
      → s ≡ record { kind = ListOf; start = offset_of o b x.offset; len = size_of o b x.offset } → IsOf o b x s
  of_file : is_shareable s.kind ≡ true → IsOf o b x s

abbrev IsShareable : Span → Type 0
IsShareable s = is_shareable s.kind ≡ true

data_shareable : (k : ℕ) (o : Order) (b : List ℕ) (q size : ℕ) → Every IsShareable (data_from o b k q size)
data_shareable zero o b q size = tt
data_shareable (suc k) o b q size =
    every_join IsShareable (added Data (block_start (word o b q)) (min 4096 size))
    (data_from o b k (q + 4) (size - 4096))
    (every_added IsShareable Data (block_start (word o b q)) (min 4096 size) (λ l. refl))
    (data_shareable k o b (q + 4) (size - 4096))

pub file_shareable : (o : Order) (b : List ℕ) (p : ℕ) → Every IsShareable (file_extents o b p)
unfolding file_extents
file_shareable o b p =
    every_join IsShareable (added Table (offset_of o b p) (4 * block_count (size_of o b p)))
    (data_from o b (block_count (size_of o b p)) (offset_of o b p) (size_of o b p))
    (every_added IsShareable Table (offset_of o b p) (4 * block_count (size_of o b p)) (λ l. refl))
    (data_shareable (block_count (size_of o b p)) o b (offset_of o b p) (size_of o b p))

-- a directory has only its list, a file or a link its file's extents, and any other record nothing
list_row : (o : Order) (b : List ℕ) (x : Row) → type_of o b x.offset ≡ 4
    → row_extents o b x ≡ added ListOf (offset_of o b x.offset) (size_of o b x.offset) ++ []
list_row o b x e = rw e refl

file_row : (o : Order) (b : List ℕ) (x : Row) → type_of o b x.offset ≢ 4
    → row_extents o b x ≡ (if has_data (type_of o b x.offset) then file_extents o b x.offset else [])
file_row o b x n = elim (eqb_tells (type_of o b x.offset) 4) [
  | inl e ↦ absurd (n e.1)
  | inr k ↦ rw k.0 refl
]

-- what holds of a list and of a file's extents holds of all extents of a row
pub row_every : (P : Span → Type 0) (o : Order) (b : List ℕ) (x : Row)
    → (type_of o b x.offset ≡ 4 → 0 < size_of o b x.offset
    → P (record { kind = ListOf; start = offset_of o b x.offset; len = size_of o b x.offset }))
    → (has_data (type_of o b x.offset) ≡ true → Every P (file_extents o b x.offset)) → Every P (row_extents o b x)
row_every P o b x f g = elim (eqb_tells (type_of o b x.offset) 4) [
  | inl e ↦ subst (Every P) (sym (list_row o b x e.1))
      (every_join P (added ListOf (offset_of o b x.offset) (size_of o b x.offset)) []
      (every_added P ListOf (offset_of o b x.offset) (size_of o b x.offset) (f e.1)) tt)
  | inr k ↦ subst (Every P) (sym (file_row o b x k.1))
      (elim (has_data (type_of o b x.offset)) as
      (λ v. has_data (type_of o b x.offset) ≡ v → Every P (if v then file_extents o b x.offset else []))
      [ true ↦ λ e. g e | false ↦ λ e. tt ] refl)
]

row_of : (o : Order) (b : List ℕ) (x : Row) → Every (IsOf o b x) (row_extents o b x)
row_of o b x = row_every (IsOf o b x) o b x (λ e l. of_list e l refl)
    (λ e. every_weaker IsShareable (IsOf o b x) (λ s k. of_file k) (file_extents o b x.offset)
    (file_shareable o b x.offset))

-- twins may be shared, if the lists of rows are apart
twin_apart : (o : Order) (b : List ℕ) (x y : Row) (s t : Span) → ListsApart o b x y → IsOf o b x s → IsOf o b y t
    → NotTwin s t
twin_apart o b x y s t n (of_file k) j e = k
twin_apart o b x y s t n (of_list a l i) (of_file k) e = subst IsShareable (sym e) k
twin_apart o b x y s t n (of_list a l i) (of_list a' l' i') e =
    absurd (n a a' l (ap (λ (z : Span). z.start) (sym i ∙ e ∙ i')) l')

rows_apart : (o : Order) (b : List ℕ) (x y : Row) → ListsApart o b x y
    → Every (λ u. Every (NotTwin u) (row_extents o b y)) (row_extents o b x)
rows_apart o b x y n =
    every_weaker (IsOf o b x) (λ u. Every (NotTwin u) (row_extents o b y))
    (λ u i. every_weaker (IsOf o b y) (NotTwin u) (λ v j. twin_apart o b x y u v n i j) (row_extents o b y)
    (row_of o b y)) (row_extents o b x) (row_of o b x)

shareable_pairs : (xs : List Span) → Every IsShareable xs → Pairs NotTwin xs
shareable_pairs [] h = tt
shareable_pairs (x ∷ xs) h = (every_all (NotTwin x) (λ y e. h.0) xs, shareable_pairs xs h.1)

row_pairs : (o : Order) (b : List ℕ) (x : Row) → Pairs NotTwin (row_extents o b x)
row_pairs o b x = elim (eqb_tells (type_of o b x.offset) 4) [
  | inl e ↦
      let list = added ListOf (offset_of o b x.offset) (size_of o b x.offset) in
      subst (Pairs NotTwin) (sym (list_row o b x e.1))
      (pairs_join NotTwin list [] (pairs_added NotTwin ListOf (offset_of o b x.offset) (size_of o b x.offset)) tt
      (every_all (λ u. Every (NotTwin u) []) (λ u. tt) list))
  | inr k ↦ subst (Pairs NotTwin) (sym (file_row o b x k.1))
      (elim (has_data (type_of o b x.offset)) as (λ v. Pairs NotTwin (if v then file_extents o b x.offset else [])) [
        | true ↦ shareable_pairs (file_extents o b x.offset) (file_shareable o b x.offset)
        | false ↦ tt
      ])
]

-- the superblock is no extent of a row
super_apart : (o : Order) (b : List ℕ) (y : Row) (s : Span) → IsOf o b y s
    → NotTwin (record { kind = Super; start = 0; len = 76 }) s
super_apart o b y s (of_list a l i) e = let z : Super ≡ ListOf = ap (λ (v : Span). v.kind) (e ∙ i) in absurd (cc)
super_apart o b y s (of_file k) e = subst IsShareable (sym e) k

-- no two extents of an image are one, except tables and data
pub extents_pairs : (o : Order) (b : List ℕ) (all : List Row) → Pairs (ListsApart o b) all
    → Pairs NotTwin (extents_of o b all)
extents_pairs o b all apart =
    pairs_join NotTwin (added Super 0 76) (flat_map (row_extents o b) all) (pairs_added NotTwin Super 0 76)
    (pairs_flat NotTwin (ListsApart o b) (row_extents o b) (row_pairs o b) (rows_apart o b) all apart)
    (every_added (λ u. Every (NotTwin u) (flat_map (row_extents o b) all)) Super 0 76 (λ l. all_apart all))
  where
    all_apart : (xs : List Row) → Every (NotTwin (record { kind = Super; start = 0; len = 76 }))
        (flat_map (row_extents o b) xs)
    all_apart [] = tt
    all_apart (x ∷ xs) = every_join (NotTwin (record { kind = Super; start = 0; len = 76 })) (row_extents o b x)
        (flat_map (row_extents o b) xs)
        (every_weaker (IsOf o b x) (NotTwin (record { kind = Super; start = 0; len = 76 })) (super_apart o b x)
        (row_extents o b x) (row_of o b x)) (all_apart xs)

-- a block whose pointer is at q, with so many bytes left
abbrev block : Order → List ℕ → ℕ → ℕ → Span
block o b q size = record { kind = Data; start = block_start (word o b q); len = min 4096 size }

-- what holds of each block by its index holds of all
data_every : (P : Span → Type 0) (k : ℕ) (o : Order) (b : List ℕ) (q size : ℕ)
    → ((i : ℕ) → i < k → P (block o b (q + 4 * i) (size - 4096 * i))) → Every P (data_from o b k q size)
data_every P zero o b q size f = tt
data_every P (suc k) o b q size f =
    let e : q + 4 * 0 ≡ q = omega arith in
    let s : size - 4096 * 0 ≡ size = omega arith in
    let here : block o b (q + 4 * 0) (size - 4096 * 0) ≡ block o b q size = rw (e, s) refl in
    every_join P (added Data (block_start (word o b q)) (min 4096 size)) (data_from o b k (q + 4) (size - 4096))
    (every_added P Data (block_start (word o b q)) (min 4096 size) (λ l. subst P here (f 0 (omega arith))))
    (data_every P k o b (q + 4) (size - 4096) (λ i l.
    let e' : q + 4 * suc i ≡ q + 4 + 4 * i = omega arith in
    let s' : size - 4096 * suc i ≡ size - 4096 - 4096 * i = omega arith in
    let there : block o b (q + 4 * suc i) (size - 4096 * suc i) ≡ block o b (q + 4 + 4 * i) (size - 4096 - 4096 * i) =
    rw (e', s') refl in
    subst P there (f (suc i) (omega arith))))

some_len : (size : ℕ) → 0 < size → 0 < min 4096 size
some_len size h = omega arith

-- each block that is not empty is there
data_has : (k : ℕ) (o : Order) (b : List ℕ) (q size i : ℕ) → i < k → 4096 * i < size
    → Has (λ z. z ≡ block o b (q + 4 * i) (size - 4096 * i)) (data_from o b k q size)
data_has zero o b q size i l m = absurd (omega arith)
data_has (suc k) o b q size zero l m =
    let e : q + 4 * 0 ≡ q = omega arith in
    let s : size - 4096 * 0 ≡ size = omega arith in
    let here : block o b (q + 4 * 0) (size - 4096 * 0) ≡ block o b q size = rw (e, s) refl in
    has_left (λ z. z ≡ block o b (q + 4 * 0) (size - 4096 * 0)) (added Data (block_start (word o b q)) (min 4096 size))
    (data_from o b k (q + 4) (size - 4096))
    (subst (λ (v : Span). Has (λ z. z ≡ v) (added Data (block_start (word o b q)) (min 4096 size))) (sym here)
    (has_added Data (block_start (word o b q)) (min 4096 size) (some_len size (omega arith))))
data_has (suc k) o b q size (suc i) l m =
    let e : q + 4 * suc i ≡ q + 4 + 4 * i = omega arith in
    let s : size - 4096 * suc i ≡ size - 4096 - 4096 * i = omega arith in
    let there : block o b (q + 4 * suc i) (size - 4096 * suc i) ≡ block o b (q + 4 + 4 * i) (size - 4096 - 4096 * i) =
    rw (e, s) refl in
    has_right (λ z. z ≡ block o b (q + 4 * suc i) (size - 4096 * suc i))
    (added Data (block_start (word o b q)) (min 4096 size)) (data_from o b k (q + 4) (size - 4096))
    (subst (λ (v : Span). Has (λ z. z ≡ v) (data_from o b k (q + 4) (size - 4096))) (sym there)
    (data_has k o b (q + 4) (size - 4096) i (omega arith) (omega arith)))

-- a block has bytes, and a file with blocks has too
block_some : (size i : ℕ) → i < block_count size → 4096 * i < size
block_some size i h = omega arith

table_some : (size : ℕ) → 0 < 4 * block_count size → 0 < size
table_some size h = omega arith

some_table : (size : ℕ) → 0 < size → 0 < 4 * block_count size
some_table size h = omega arith

file_are : (o : Order) (b : List ℕ) (p : ℕ) → IsReached o b p → has_data (type_of o b p) ≡ true
    → Every (IsExtent o b) (file_extents o b p)
unfolding file_extents
file_are o b p k d =
    every_join (IsExtent o b) (added Table (offset_of o b p) (4 * block_count (size_of o b p)))
    (data_from o b (block_count (size_of o b p)) (offset_of o b p) (size_of o b p))
    (every_added (IsExtent o b) Table (offset_of o b p) (4 * block_count (size_of o b p))
    (λ l. table_of k d (table_some (size_of o b p) l) refl))
    (data_every (IsExtent o b) (block_count (size_of o b p)) o b (offset_of o b p) (size_of o b p)
    (λ i l. block_of {i = i} k d l refl))

-- the extents of rows that are reached are extents of the image
extents_are : (o : Order) (b : List ℕ) (all : List Row) → Every (λ (y : Row). IsReached o b y.offset) all
    → Every (IsExtent o b) (extents_of o b all)
extents_are o b all h = every_join (IsExtent o b) (added Super 0 76) (flat_map (row_extents o b) all)
    (every_added (IsExtent o b) Super 0 76 (λ l. superblock refl))
    (every_flat (IsExtent o b) (λ (y : Row). IsReached o b y.offset) (row_extents o b)
    (λ y k. row_every (IsExtent o b) o b y (λ e l. list_of k e l refl) (λ e. file_are o b y.offset k e)) all h)

pub row_file : (o : Order) (b : List ℕ) (x : Row) → has_data (type_of o b x.offset) ≡ true
    → row_extents o b x ≡ file_extents o b x.offset
row_file o b x h = elim (eqb_tells (type_of o b x.offset) 4) [
  | inl e ↦ let z : has_data 4 ≡ true = (rw e.1 at h) in absurd (false≢true z)
  | inr n ↦ rw (n.0, h) refl
]

-- what a row has of the extents of its record
has_list : (o : Order) (b : List ℕ) (y : Row) → type_of o b y.offset ≡ 4 → 0 < size_of o b y.offset
    → Has (λ z. z ≡ record { kind = ListOf; start = offset_of o b y.offset; len = size_of o b y.offset })
    (row_extents o b y)
has_list o b y t l =
    let P : Span → Type 0 =
    λ z. z ≡ record { kind = ListOf; start = offset_of o b y.offset; len = size_of o b y.offset } in
    subst (Has P) (sym (list_row o b y t))
    (has_left P (added ListOf (offset_of o b y.offset) (size_of o b y.offset)) []
    (has_added ListOf (offset_of o b y.offset) (size_of o b y.offset) l))

file_table : (o : Order) (b : List ℕ) (p : ℕ) → 0 < size_of o b p
    → Has (λ z. z ≡ record { kind = Table; start = offset_of o b p; len = 4 * block_count (size_of o b p) })
    (file_extents o b p)
unfolding file_extents
file_table o b p l =
    has_left (λ z. z ≡ record { kind = Table; start = offset_of o b p; len = 4 * block_count (size_of o b p) })
    (added Table (offset_of o b p) (4 * block_count (size_of o b p)))
    (data_from o b (block_count (size_of o b p)) (offset_of o b p) (size_of o b p))
    (has_added Table (offset_of o b p) (4 * block_count (size_of o b p)) (some_table (size_of o b p) l))

file_block : (o : Order) (b : List ℕ) (p i : ℕ) → i < block_count (size_of o b p)
    → Has (λ z. z ≡ block o b (offset_of o b p + 4 * i) (size_of o b p - 4096 * i)) (file_extents o b p)
unfolding file_extents
file_block o b p i l =
    has_right (λ z. z ≡ block o b (offset_of o b p + 4 * i) (size_of o b p - 4096 * i))
    (added Table (offset_of o b p) (4 * block_count (size_of o b p)))
    (data_from o b (block_count (size_of o b p)) (offset_of o b p) (size_of o b p))
    (data_has (block_count (size_of o b p)) o b (offset_of o b p) (size_of o b p) i l
    (block_some (size_of o b p) i l))

has_file : (P : Span → Type 0) (o : Order) (b : List ℕ) (y : Row) → has_data (type_of o b y.offset) ≡ true
    → Has P (file_extents o b y.offset) → Has P (row_extents o b y)
has_file P o b y d h = subst (Has P) (sym (row_file o b y d)) h

-- the span is among the extents of the record at p
abbrev Stands : Order → List ℕ → Span → ℕ → Type 0
Stands o b s p = (y : Row) → y.offset ≡ p → Has (λ z. z ≡ s) (row_extents o b y)

list_stands : (o : Order) (b : List ℕ) (p : ℕ) → type_of o b p ≡ 4 → 0 < size_of o b p
    → Stands o b (record { kind = ListOf; start = offset_of o b p; len = size_of o b p }) p
list_stands o b p t l y e =
    subst (λ (n : ℕ). type_of o b n ≡ 4 → 0 < size_of o b n
    → Has (λ z. z ≡ record { kind = ListOf; start = offset_of o b n; len = size_of o b n }) (row_extents o b y)) e
    (has_list o b y) t l

table_stands : (o : Order) (b : List ℕ) (p : ℕ) → has_data (type_of o b p) ≡ true → 0 < size_of o b p
    → Stands o b (record { kind = Table; start = offset_of o b p; len = 4 * block_count (size_of o b p) }) p
table_stands o b p d l y e =
    subst (λ (n : ℕ). has_data (type_of o b n) ≡ true → 0 < size_of o b n
    → Has (λ z. z ≡ record { kind = Table; start = offset_of o b n; len = 4 * block_count (size_of o b n) })
    (row_extents o b y)) e
    (λ c m. has_file (λ z. z ≡ record {
      kind = Table;
      start = offset_of o b y.offset;
      len = 4 * block_count (size_of o b y.offset);
    }) o b y c (file_table o b y.offset m)) d l

block_stands : (o : Order) (b : List ℕ) (p i : ℕ) → has_data (type_of o b p) ≡ true → i < block_count (size_of o b p)
    → Stands o b (block o b (offset_of o b p + 4 * i) (size_of o b p - 4096 * i)) p
block_stands o b p i d l y e =
    subst (λ (n : ℕ). has_data (type_of o b n) ≡ true → i < block_count (size_of o b n)
    → Has (λ z. z ≡ block o b (offset_of o b n + 4 * i) (size_of o b n - 4096 * i)) (row_extents o b y)) e
    (λ c m. has_file (λ z. z ≡ block o b (offset_of o b y.offset + 4 * i) (size_of o b y.offset - 4096 * i)) o b y c
    (file_block o b y.offset i m)) d l

-- overlaps in the list are those of the set
module _ {o : Order} {b : List ℕ} (all : List Row) (apart : Pairs (ListsApart o b) all)
    (reached : Every (λ (y : Row). IsReached o b y.offset) all)
    (rows : (p : ℕ) → IsReached o b p → Has (λ (y : Row). y.offset ≡ p) all) where
  -- what is among the extents of a reached record is one of the rows'
  stands_in : (s t : Span) (p : ℕ) → s ≡ t → Stands o b t p → IsReached o b p → Has (λ z. z ≡ s) (extents_of o b all)
  stands_in s t p e h k = subst (λ (v : Span). Has (λ z. z ≡ v) (extents_of o b all)) (sym e)
      (has_right (λ z. z ≡ t) (added Super 0 76) (flat_map (row_extents o b) all)
      (has_flat (λ z. z ≡ t) (λ (y : Row). y.offset ≡ p) (row_extents o b) h all (rows p k)))

  -- an extent of the image is one of the rows'
  extent_in : (s : Span) → IsExtent o b s → Has (λ z. z ≡ s) (extents_of o b all)
  extent_in s (superblock e) = inl (sym e)
  extent_in s (list_of {p} k t l e) =
      stands_in s (record { kind = ListOf; start = offset_of o b p; len = size_of o b p }) p e (list_stands o b p t l) k
  extent_in s (table_of {p} k d l e) =
      stands_in s (record { kind = Table; start = offset_of o b p; len = 4 * block_count (size_of o b p) }) p e
      (table_stands o b p d l) k
  extent_in s (block_of {p} {i} k d l e) =
      stands_in s (block o b (offset_of o b p + 4 * i) (size_of o b p - 4096 * i)) p e (block_stands o b p i d l) k

  pub overlap_fault : (p : ℕ) → OverlapsAt (extents_of o b all) p → HasExtentFault o b (record { number = 22; at = p })
  overlap_fault p h =
      let m = overlaps_in (extents_of o b all) p (extents_pairs o b all apart) h in
      let one = has_every (IsExtent o b) (λ z. z ≡ m.one) (extents_of o b all) (extents_are o b all reached) m.one_in in
      let other =
      has_every (IsExtent o b) (λ z. z ≡ m.other) (extents_of o b all) (extents_are o b all reached) m.other_in in
      record {
        one = m.one;
        other = m.other;
        differ = m.differ;
        one_is = subst (IsExtent o b) one.2 one.1;
        other_is = subst (IsExtent o b) other.2 other.1;
        overlap = m.overlap;
        at = m.place;
        number = refl;
      }

  pub fault_overlap : (e : Fault) → HasExtentFault o b e → OverlapsAt (extents_of o b all) e.at
  fault_overlap e h = subst (OverlapsAt (extents_of o b all)) (sym h.at)
      (overlaps_of h.one h.other (extents_of o b all) (extent_in h.one h.one_is)
      (extent_in h.other h.other_is) h.differ h.overlap)
