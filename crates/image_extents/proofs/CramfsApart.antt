-- The extents of a cramfs image of which no blocks are joined.
use Rattle.std.proofs.Common.{◌≡◌, ◌≤◌, ◌<◌, ◌^◌, ℕ, zero, suc, ◌+◌, ◌-◌, ◌*◌, ◌==◌, List, [], ◌∷◌, ◌++◌, length, map}
use Rattle.std.proofs.Common.{refl, sym, ap, inl, inr, ◌⊎◌}
use Rattle.std.proofs.Common.{subst, ◌∙◌, arith, true, false, if◌then◌else◌, flat_map, min, append_assoc, append-nil}
use Rattle.std.proofs.lemmas.List.{map-append}
use Rattle.std.proofs.lemmas.Grind.{flat_map-append}
use Rattle.std.proofs.lemmas.List.Sorted.{Contains-permutation, IsPermutation-sym}
use Rattle.rom_fields.specs.declared.span.Extent.TheVariants as span
use Rattle.rom_fields.specs.declared.span.Span.{Span}
use Rattle.rom_fields.specs.Extents.{MeetsAt, OverlapsAt, added}
use Rattle.record_forest.specs.declared.reference.Reference.{Reference}
use Rattle.record_forest.specs.Forest.{Forest, none, at, rows, all_rows, count}
use Rattle.cramfs_format.specs.declared.order.Order.{Order}
use Rattle.cramfs_format.specs.Order.{word}
use Rattle.cramfs_format.specs.Inode.{offset_of, block_count, block_start, size_of, type_of, has_data}
use Rattle.cramfs_format.specs.Refers.{references}
use Rattle.cramfs_format.specs.Tree.{row_extents, file_extents, data_from, IsTree}
use Rattle.image_info.specs.Gaps.{cramfs_forest, cramfs_extents}
use Rattle.image_info.proofs.Forests.{cramfs_is}
use Rattle.image_extents.specs.declared.extent.Record.{Record}
use Rattle.image_extents.specs.declared.extent.Extent.{Extent}
use Rattle.image_extents.specs.declared.extent.Extents.{Extents}
use Rattle.image_extents.specs.declared.extent.Kind.TheVariants.{Super, List as ListOf, Table, Data}
use Rattle.image_extents.specs.Listed.{listed, all_listed, cramfs_entry, cramfs_listed}
use Rattle.image_extents.specs.Found.{found, with_block, with_blocks, with_list, with_contents, with_record}
use Rattle.image_extents.specs.Found.{cramfs_all_found, table_in, with_records}
use Rattle.image_extents.specs.Tables.{is_first}
use Rattle.image_extents.specs.Sorted.{AreBlocks}
use Rattle.image_extents.specs.Apart.{AreApart}
use Rattle.image_extents.proofs.Apart.{span_of, apart_of, span_found}

-- the list of a directory
abbrev cramfs_list : Order → List ℕ → ℕ → List Span
cramfs_list o b p = if type_of o b p == 4 then added span.List (offset_of o b p) (size_of o b p) else []

-- the table at t of a file of `size` bytes, and its blocks
abbrev cramfs_file : Order → List ℕ → ℕ → ℕ → List Span
cramfs_file o b t size = added span.Table t (4 * block_count size) ++ data_from o b (block_count size) t size

-- the table and the blocks of a file or a link
abbrev cramfs_contents : Order → List ℕ → ℕ → List Span
cramfs_contents o b p =
    if has_data (type_of o b p) then cramfs_file o b (offset_of o b p) (size_of o b p) else []

-- the extents of one record
abbrev cramfs_record : Order → List ℕ → ℕ → List Span
cramfs_record o b p = cramfs_list o b p ++ cramfs_contents o b p

-- the extents of the records of a forest
abbrev taken : Order → List ℕ → Forest → List Span
taken o b none = []
taken o b (at p own after) = cramfs_record o b p ++ (taken o b own ++ taken o b after)

alone : (xs : List Extent) (y : Extent) → with_block false xs y ≡ xs ++ y ∷ []
alone [] y = refl
alone (x ∷ []) y = refl
alone (x ∷ z ∷ zs) y = ap (λ (v : List Extent). x ∷ v) (alone (z ∷ zs) y)

some_added : (start len : ℕ) → 0 < len
    → added span.Data start len ≡ record { kind = span.Data; start = start; len = len } ∷ []
some_added start zero h = absurd (omega (arith, h))
some_added start (suc n) h = refl

blocks_spans : (o : Order) (b : List ℕ) (i : ℕ) (xs : List Extent) (k q size offset : ℕ) → 4096 * k < size + 4096
    → map span_of (with_blocks false o b i xs k q size offset) ≡ map span_of xs ++ data_from o b k q size
blocks_spans o b i xs zero q size offset h = sym (append-nil (map span_of xs))
blocks_spans o b i xs (suc k) q size offset h =
    let y : Extent =
    record { kind = Data; start = block_start (word o b q); len = min 4096 size; offset = offset; owner = i } in
    let s : Span = span_of y in
    let some : 0 < min 4096 size = grind (arith, h) in
    blocks_spans o b i (with_block false xs y) k (q + 4) (size - 4096) (offset + 4096) (omega (arith, h))
    ∙ ap (λ (v : List Span). v ++ data_from o b k (q + 4) (size - 4096))
    (ap (map span_of) (alone xs y) ∙ map-append span_of xs (y ∷ []))
    ∙ append_assoc (map span_of xs) (s ∷ []) (data_from o b k (q + 4) (size - 4096))
    ∙ ap (λ (v : List Span). map span_of xs ++ (v ++ data_from o b k (q + 4) (size - 4096)))
    (sym (some_added (block_start (word o b q)) (min 4096 size) some))

list_spans : (o : Order) (b : List ℕ) (p i : ℕ) (xs : List Extent)
    → map span_of (with_list o b p i xs) ≡ map span_of xs ++ cramfs_list o b p
list_spans o b p i xs = elim (type_of o b p == 4) as
    (λ v. map span_of (if v then xs ++ found ListOf (offset_of o b p) (size_of o b p) 0 i else xs)
    ≡ map span_of xs ++ (if v then added span.List (offset_of o b p) (size_of o b p) else [])) [
      | true ↦ map-append span_of xs (found ListOf (offset_of o b p) (size_of o b p) 0 i)
          ∙ ap (λ (v : List Span). map span_of xs ++ v) (span_found ListOf (offset_of o b p) (size_of o b p) 0 i)
      | false ↦ sym (append-nil (map span_of xs))
    ]

few_blocks : (size : ℕ) → 4096 * block_count size < size + 4096
few_blocks size = omega arith

contents_spans : (o : Order) (b : List ℕ) (p i : ℕ) (xs : List Extent)
    → map span_of (with_contents false o b p i xs) ≡ map span_of xs ++ cramfs_contents o b p
contents_spans o b p i xs =
    let t = offset_of o b p in
    let size = size_of o b p in
    let n = block_count size in
    let zs : List Extent = xs ++ found Table t (4 * n) 0 i in
    elim (has_data (type_of o b p)) as
    (λ v. map span_of (if v then with_blocks false o b i zs n t size 0 else xs)
    ≡ map span_of xs ++ (if v then cramfs_file o b t size else [])) [
      | true ↦ blocks_spans o b i zs n t size 0 (few_blocks size)
          ∙ ap (λ (v : List Span). v ++ data_from o b n t size)
          (map-append span_of xs (found Table t (4 * n) 0 i)
          ∙ ap (λ (v : List Span). map span_of xs ++ v) (span_found Table t (4 * n) 0 i))
          ∙ append_assoc (map span_of xs) (added span.Table t (4 * n)) (data_from o b n t size)
      | false ↦ sym (append-nil (map span_of xs))
    ]

abbrev spans_at : Order → List ℕ → Record → List Span
spans_at o b x = cramfs_record o b x.offset

-- those of a record, if it is the first with its block pointers
abbrev first_spans : Order → List ℕ → List Record → ℕ → Record → List Span
first_spans o b all n x = if is_first (table_in o b) all n x then spans_at o b x else []

abbrev firsts : Order → List ℕ → List Record → ℕ → List Record → List Span
firsts o b all n [] = []
firsts o b all n (x ∷ rs) = first_spans o b all n x ++ firsts o b all (suc n) rs

record_spans : (o : Order) (b : List ℕ) (all : List Record) (xs : List Extent) (n : ℕ) (x : Record)
    → map span_of (with_record false o b all xs n x) ≡ map span_of xs ++ first_spans o b all n x
record_spans o b all xs n x =
    let ys : List Extent = with_list o b x.offset n xs in
    elim (is_first (table_in o b) all n x) as
    (λ v. map span_of (if v then with_contents false o b x.offset n ys else xs)
    ≡ map span_of xs ++ (if v then spans_at o b x else [])) [
      | true ↦ contents_spans o b x.offset n ys
          ∙ ap (λ (v : List Span). v ++ cramfs_contents o b x.offset) (list_spans o b x.offset n xs)
          ∙ append_assoc (map span_of xs) (cramfs_list o b x.offset) (cramfs_contents o b x.offset)
      | false ↦ sym (append-nil (map span_of xs))
    ]

records_spans : (o : Order) (b : List ℕ) (all : List Record) (xs : List Extent) (n : ℕ) (rs : List Record)
    → map span_of (with_records false o b all xs n rs) ≡ map span_of xs ++ firsts o b all n rs
records_spans o b all xs n [] = sym (append-nil (map span_of xs))
records_spans o b all xs n (x ∷ rs) =
    records_spans o b all (with_record false o b all xs n x) (suc n) rs
    ∙ ap (λ (v : List Span). v ++ firsts o b all (suc n) rs) (record_spans o b all xs n x)
    ∙ append_assoc (map span_of xs) (first_spans o b all n x) (firsts o b all (suc n) rs)

-- ---- spans of which some are left out

-- ys has the spans xs, in this order, and others
abbrev IsPart : List Span → List Span → Type 0
IsPart xs [] = xs ≡ []
IsPart xs (y ∷ ys) = IsPart xs ys ⊎ ((rest : List Span) × (xs ≡ y ∷ rest) × IsPart rest ys)

part_all : (xs : List Span) → IsPart xs xs
part_all [] = refl
part_all (x ∷ xs) = inr (xs, refl, part_all xs)

part_none : (ys : List Span) → IsPart [] ys
part_none [] = refl
part_none (y ∷ ys) = inl (part_none ys)

part_join : (xs ys us vs : List Span) → IsPart xs ys → IsPart us vs → IsPart (xs ++ us) (ys ++ vs)
part_join xs [] us vs h k = subst (λ (v : List Span). IsPart (v ++ us) vs) (sym h) k
part_join xs (y ∷ ys) us vs (inl h) k = inl (part_join xs ys us vs h k)
part_join xs (y ∷ ys) us vs (inr h) k =
    inr (h.0 ++ us, ap (λ (v : List Span). v ++ us) h.1, part_join h.0 ys us vs h.2 k)

part_meets : (z : Span) (xs ys : List Span) (q : ℕ) → IsPart xs ys → MeetsAt z xs q → MeetsAt z ys q
part_meets z xs [] q h m = subst (λ (v : List Span). MeetsAt z v q) h m
part_meets z xs (y ∷ ys) q (inl h) m = inr (part_meets z xs ys q h m)
part_meets z xs (y ∷ ys) q (inr h) m = elim (subst (λ (v : List Span). MeetsAt z v q) h.1 m) [
  | inl o ↦ inl o
  | inr r ↦ inr (part_meets z h.0 ys q h.2 r)
]

part_overlaps : (xs ys : List Span) (q : ℕ) → IsPart xs ys → OverlapsAt xs q → OverlapsAt ys q
part_overlaps xs [] q h m = subst (λ (v : List Span). OverlapsAt v q) h m
part_overlaps xs (y ∷ ys) q (inl h) m = inr (part_overlaps xs ys q h m)
part_overlaps xs (y ∷ ys) q (inr h) m = elim (subst (λ (v : List Span). OverlapsAt v q) h.1 m) [
  | inl o ↦ inl (part_meets y h.0 ys q h.2 o)
  | inr r ↦ inr (part_overlaps h.0 ys q h.2 r)
]

part_first : (o : Order) (b : List ℕ) (all : List Record) (n : ℕ) (x : Record)
    → IsPart (first_spans o b all n x) (spans_at o b x)
part_first o b all n x = elim (is_first (table_in o b) all n x) as
    (λ v. IsPart (if v then spans_at o b x else []) (spans_at o b x))
    [ true ↦ part_all (spans_at o b x) | false ↦ part_none (spans_at o b x) ]

part_firsts : (o : Order) (b : List ℕ) (all : List Record) (n : ℕ) (rs : List Record)
    → IsPart (firsts o b all n rs) (flat_map (spans_at o b) rs)
part_firsts o b all n [] = refl
part_firsts o b all n (x ∷ rs) =
    part_join (first_spans o b all n x) (spans_at o b x) (firsts o b all (suc n) rs) (flat_map (spans_at o b) rs)
    (part_first o b all n x) (part_firsts o b all (suc n) rs)

listed_spans : (o : Order) (b : List ℕ) (n d : ℕ) (f : Forest)
    → flat_map (spans_at o b) (listed (cramfs_entry o b) n d f) ≡ taken o b f
listed_spans o b n d none = refl
listed_spans o b n d (at p own after) =
    ap (λ (v : List Span). cramfs_record o b p ++ v)
    (flat_map-append (spans_at o b) (listed (cramfs_entry o b) (suc n) n own)
    (listed (cramfs_entry o b) (suc n + count own) d after)
    ∙ ap (λ (v : List Span). v ++ flat_map (spans_at o b) (listed (cramfs_entry o b) (suc n + count own) d after))
    (listed_spans o b (suc n) n own)
    ∙ ap (λ (v : List Span). taken o b own ++ v) (listed_spans o b (suc n + count own) d after))

whole_listed : (o : Order) (b : List ℕ) (f : Forest)
    → flat_map (spans_at o b) (all_listed (cramfs_entry o b) f) ≡ taken o b f
whole_listed o b none = refl
whole_listed o b (at r own after) =
    ap (λ (v : List Span). cramfs_record o b r ++ v)
    (flat_map-append (spans_at o b) (listed (cramfs_entry o b) 1 0 own)
    (listed (cramfs_entry o b) (suc (count own)) 0 after)
    ∙ ap (λ (v : List Span). v ++ flat_map (spans_at o b) (listed (cramfs_entry o b) (suc (count own)) 0 after))
    (listed_spans o b 1 0 own)
    ∙ ap (λ (v : List Span). taken o b own ++ v) (listed_spans o b (suc (count own)) 0 after))

rows_take : (o : Order) (b : List ℕ) (x : Reference) (directory parent deep : ℕ) (f : Forest)
    → flat_map (row_extents o b) (rows (references o b) x directory parent deep f) ≡ taken o b f
unfolding file_extents
rows_take o b x directory parent deep none = refl
rows_take o b x directory parent deep (at p own after) =
    let g = references o b in
    let e = flat_map-append (row_extents o b) (rows g (g.own x) p directory (deep + 1) own)
    (rows g (g.after x) directory parent deep after) in
    let l = rows_take o b (g.own x) p directory (deep + 1) own in
    let m = rows_take o b (g.after x) directory parent deep after in
    ap (λ (v : List Span). cramfs_record o b p ++ v)
    (e ∙ ap (λ (v : List Span). v ++ flat_map (row_extents o b) (rows g (g.after x) directory parent deep after)) l
    ∙ ap (λ (v : List Span). taken o b own ++ v) m)

whole_rows : (o : Order) (b : List ℕ) (f : Forest)
    → flat_map (row_extents o b) (all_rows (references o b) f) ≡ taken o b f
unfolding file_extents
whole_rows o b none = refl
whole_rows o b (at q own after) =
    let g = references o b in
    ap (λ (v : List Span). cramfs_record o b q ++ v)
    (flat_map-append (row_extents o b) (rows g (g.own g.top) q q 1 own) (rows g (g.after g.top) q q 1 after)
    ∙ ap (λ (v : List Span). v ++ flat_map (row_extents o b) (rows g (g.after g.top) q q 1 after))
    (rows_take o b (g.own g.top) q q 1 own)
    ∙ ap (λ (v : List Span). taken o b own ++ v) (rows_take o b (g.after g.top) q q 1 after))

all_listed_is : (o : Order) (b : List ℕ) → flat_map (spans_at o b) (cramfs_listed o b)
    ≡ flat_map (row_extents o b) (all_rows (references o b) (cramfs_forest o b))
unfolding cramfs_listed
all_listed_is o b = whole_listed o b (cramfs_forest o b) ∙ sym (whole_rows o b (cramfs_forest o b))

cramfs_spans : (o : Order) (b : List ℕ) → IsPart (map span_of (cramfs_all_found false o b)) (cramfs_extents o b)
unfolding cramfs_all_found cramfs_extents
cramfs_spans o b =
    let rs : List Record = cramfs_listed o b in
    let is : flat_map (spans_at o b) rs ≡ flat_map (row_extents o b) (all_rows (references o b) (cramfs_forest o b)) =
    all_listed_is o b in
    subst (λ (v : List Span). IsPart v (added span.Super 0 76
    ++ flat_map (row_extents o b) (all_rows (references o b) (cramfs_forest o b))))
    (sym (records_spans o b rs (found Super 0 76 0 0) 0 rs))
    (subst (λ (v : List Span). IsPart (added span.Super 0 76 ++ firsts o b rs 0 rs) (added span.Super 0 76 ++ v)) is
    (part_join (added span.Super 0 76) (added span.Super 0 76) (firsts o b rs 0 rs) (flat_map (spans_at o b) rs)
    (part_all (added span.Super 0 76)) (part_firsts o b rs 0 rs)))

pub cramfs_apart : (o : Order) (b : List ℕ) (most deepest : ℕ) (f : Forest) (e : Extents) → IsTree o b most deepest f
    → length (all_rows (references o b) f) ≤ 2 ^ 32 → AreBlocks false o b e → AreApart e.extents.items
unfolding cramfs_extents
cramfs_apart o b most deepest f e t few a =
    let same : cramfs_forest o b ≡ f = cramfs_is o b most deepest f t few in
    let none_at : (q : ℕ) → OverlapsAt (cramfs_extents o b) q → ⊥ =
    λ q m. t.apart q (subst (λ (v : Forest). OverlapsAt
    (added span.Super 0 76 ++ flat_map (row_extents o b) (all_rows (references o b) v)) q) same m) in
    let apart : AreApart (cramfs_all_found false o b) =
    apart_of (cramfs_all_found false o b)
    (λ q m. none_at q (part_overlaps (map span_of (cramfs_all_found false o b)) (cramfs_extents o b) q
    (cramfs_spans o b) m)) in
    λ x y p cx cy vx vy. apart x y p
    (Contains-permutation e.extents.items (cramfs_all_found false o b) x (IsPermutation-sym _ _ a.extents.same) cx)
    (Contains-permutation e.extents.items (cramfs_all_found false o b) y
    (IsPermutation-sym _ _ a.extents.same) cy) vx vy
