-- The extents of data are runs of the places of their records.
use Rattle.std.proofs.Common.{◌≡◌, ◌<◌, ◌/◌, ◌%◌, ℕ, zero, suc, ◌+◌, ◌-◌, ◌*◌, ◌==◌, Bool, true, false, List, []}
use Rattle.std.proofs.Common.{◌∷◌, ◌++◌, length, min, Option, None, Some, refl, sym, ap, subst, ◌∙◌, arith, inl, inr}
use Rattle.std.proofs.Common.{if◌then◌else◌, eqb-true, length-append}
use Rattle.std.proofs.lemmas.Bool.{cases_lt}
use Rattle.std.specs.List.{AllByRecursion as Every}
use Rattle.std.specs.Prelude.{slice_get, slice_index}
use Rattle.record_forest.proofs.Lists.{every_join}
use Rattle.rom_tree.proofs.Numbers.{length_row, row_at}
use Rattle.rom_tree.specs.Image.{IsRun}
use Rattle.rom_tree.specs.Tree.{row_from}
use Rattle.romfs_format.specs.Record.{end_of, size_of, type_of, has_data}
use Rattle.romfs_format.specs.Tree.{places_at}
use Rattle.cramfs_format.specs.declared.order.Order.{Order}
use Rattle.cramfs_format.specs.Order.{word}
use Rattle.cramfs_format.specs.Inode.{block_count, block_start, offset_of, pointer_place, pointer_of}
use Rattle.cramfs_format.specs.Inode.{has_data as has_blocks, size_of as cramfs_size_of, type_of as cramfs_type_of}
use Rattle.cramfs_format.specs.Tree.{places_at as cramfs_places_at}
use Rattle.cramfs_format.proofs.Contents.{length_places, place_at}
use Rattle.image_extents.specs.declared.extent.Record.{Record}
use Rattle.image_extents.specs.declared.extent.Extent.{Extent}
use Rattle.image_extents.specs.declared.extent.Kind.{Kind}
use Rattle.image_extents.specs.declared.extent.Kind.TheVariants.{Header, List as ListOf, Table, Data}
use Rattle.image_extents.specs.Found.{found, romfs_found, found_from, goes_on, is_data, longer, with_block, with_blocks}
use Rattle.image_extents.specs.Found.{table_in, with_list, with_contents, with_record, with_records}
use Rattle.image_extents.specs.Tables.{is_first}
use Rattle.image_extents.specs.Owned.{run_of}
use Rattle.image_extents.proofs.Named.{at_index}

-- a run, and one that goes on where it ends
join_runs : (ps : List ℕ) (off start len more : ℕ) → IsRun ps off (record { place = start; len = len })
    → IsRun ps (off + len) (record { place = start + len; len = more })
    → IsRun ps off (record { place = start; len = len + more })
join_runs ps off start len more x y =
    let some = x.some in
    let within = y.within in
    record {
      some = omega (arith, some);
      within = omega (arith, within);
      row = λ k l. elim (cases_lt k len) [
        | inl m ↦ x.row k m
        | inr m ↦
            let a : off + len + (k - len) ≡ off + k = omega (arith, m) in
            let d : start + len + (k - len) ≡ start + k = omega (arith, m) in
            ap (slice_index ps) (sym a) ∙ (y.row (k - len) (omega (arith, l, m)) ∙ d)
      ];
    }

if_true : (c d : Bool) → (if c then d else false) ≡ true → (c ≡ true) × (d ≡ true)
if_true true d h = (refl, h)
if_true false d h = absurd (cc)

-- the places of a record, if it has data
abbrev pub places_by : (ℕ → Bool) → (ℕ → List ℕ) → Option Record → List ℕ
places_by has places None = []
places_by has places (Some x) = if has x.offset then places x.offset else []

module _ (rs : List Record) (has : ℕ → Bool) (places : ℕ → List ℕ) where
  abbrev pub places_in : ℕ → List ℕ
  places_in i = places_by has places (slice_get rs i)

  -- an extent of data is a run of the places of its record
  abbrev pub IsOf : Extent → Type 0
  IsOf x = x.kind ≡ Data → IsRun (places_in x.owner) x.offset (run_of x)

  places_is : (before : List Record) (x : Record) (after : List Record) (n : ℕ) → rs ≡ before ++ x ∷ after
      → length before ≡ n → has x.offset ≡ true → places_in n ≡ places x.offset
  places_is before x after n is l d =
      ap (λ (v : List Record). places_by has places (slice_get v n)) is
      ∙ (ap (λ (v : ℕ). places_by has places (slice_get (before ++ x ∷ after) v)) (sym l)
      ∙ (ap (places_by has places) (at_index before x after)
      ∙ ap (λ (v : Bool). if v then places x.offset else []) d))

  pub other_found : (kind : Kind) → (kind ≡ Data → ⊥) → (start len offset i : ℕ)
      → Every IsOf (found kind start len offset i)
  other_found kind n start zero offset i = tt
  other_found kind n start (suc k) offset i = ((λ e. absurd (n e)), tt)

  row_found : (start len i : ℕ) → places_in i ≡ row_from start len → Every IsOf (found Data start len 0 i)
  row_found start zero i e = tt
  row_found start (suc k) i e =
      let l = length_row start (suc k) in (
        (λ d. subst (λ (v : List ℕ). IsRun v 0 (record { place = start; len = suc k })) (sym e) (record {
          some = omega arith;
          within = omega (arith, l);
          row = λ j m. ap (slice_index (row_from start (suc k))) (omega arith) ∙ row_at start (suc k) j m;
        })),
        tt,
      )

  -- ---- blocks

  longer_of : (x y : Extent) → goes_on x y ≡ true → IsOf x → IsRun (places_in y.owner) y.offset (run_of y)
      → IsOf (longer x y)
  longer_of x y g hx hy e =
      let a = (if_true (is_data x.kind) _ g).1 in
      let owner = if_true (x.owner == y.owner) _ a in
      let start = if_true (x.start + x.len == y.start) _ owner.1 in
      let offset = if_true (x.offset + x.len == y.offset) _ start.1 in
      let same : y.owner ≡ x.owner = sym (eqb-true x.owner y.owner owner.0) in
      let at : y.offset ≡ x.offset + x.len = sym (eqb-true (x.offset + x.len) y.offset offset.0) in
      let from : y.start ≡ x.start + x.len = sym (eqb-true (x.start + x.len) y.start start.0) in
      let one : IsRun (places_in x.owner) y.offset (run_of y) =
      subst (λ (v : ℕ). IsRun (places_in v) y.offset (run_of y)) same hy in
      let two : IsRun (places_in x.owner) (x.offset + x.len) (run_of y) =
      subst (λ (v : ℕ). IsRun (places_in x.owner) v (run_of y)) at one in
      let three : IsRun (places_in x.owner) (x.offset + x.len) (record { place = x.start + x.len; len = y.len }) =
      subst (λ (v : ℕ). IsRun (places_in x.owner) (x.offset + x.len) (record { place = v; len = y.len })) from two in
      join_runs (places_in x.owner) x.offset x.start x.len y.len (hx e) three

  block_of : (j : Bool) (xs : List Extent) (y : Extent) → Every IsOf xs
      → IsRun (places_in y.owner) y.offset (run_of y) → Every IsOf (with_block j xs y)
  block_of j [] y h k = ((λ e. k), tt)
  block_of j (x ∷ []) y h k = elim (if j then goes_on x y else false) as
      (λ v. (if j then goes_on x y else false) ≡ v → Every IsOf (if v then longer x y ∷ [] else x ∷ y ∷ [])) [
        | true ↦ λ e. (longer_of x y (if_true j (goes_on x y) e).1 h.0 k, tt)
        | false ↦ λ e. (h.0, ((λ d. k), tt))
      ] refl
  block_of j (x ∷ z ∷ zs) y h k = (h.0, block_of j (z ∷ zs) y h.1 k)

few_blocks : (size : ℕ) → 4096 * block_count size < size + 4096
few_blocks size = omega arith

-- the t-th block of a record is a run of its places
block_run : (o : Order) (b : List ℕ) (p t : ℕ) → 4096 * t < cramfs_size_of o b p
    → IsRun (cramfs_places_at o b p) (4096 * t) (record {
      place = block_start (word o b (offset_of o b p + 4 * t));
      len = min 4096 (cramfs_size_of o b p - 4096 * t);
    })
unfolding pointer_place
block_run o b p t l =
    let n = length_places o b p in
    record {
      some = grind (arith, l);
      within = grind (arith, n, l);
      row = λ k m.
          let below : k < 4096 = grind (arith, m) in
          let inside : 4096 * t + k < cramfs_size_of o b p = grind (arith, m, l) in
          let d : (4096 * t + k) / 4096 ≡ t = omega (arith, below) in
          let r : (4096 * t + k) % 4096 ≡ k = omega (arith, below) in
          place_at o b p (4096 * t + k) inside
          ∙ (ap (λ (v : ℕ). block_start (pointer_of o b p v) + (4096 * t + k) % 4096) d
          ∙ ap (λ (v : ℕ). block_start (word o b (offset_of o b p + 4 * t)) + v) r);
    }

module _ (rs : List Record) (j : Bool) (o : Order) (b : List ℕ) where
  abbrev blocks : ℕ → Bool
  blocks p = has_blocks (cramfs_type_of o b p)

  abbrev pub Of : Extent → Type 0
  Of = IsOf rs blocks (cramfs_places_at o b)

  blocks_of : (p i t k q size offset : ℕ) (xs : List Extent) → places_in rs blocks (cramfs_places_at o b) i
      ≡ cramfs_places_at o b p → q ≡ offset_of o b p + 4 * t → size ≡ cramfs_size_of o b p - 4096 * t
      → offset ≡ 4096 * t → 4096 * k < size + 4096 → Every Of xs → Every Of (with_blocks j o b i xs k q size offset)
  blocks_of p i t zero q size offset xs e eq es eo few h = h
  blocks_of p i t (suc k) q size offset xs e eq es eo few h =
      let y : Extent =
      record { kind = Data; start = block_start (word o b q); len = min 4096 size; offset = offset; owner = i } in
      let inside : 4096 * t < cramfs_size_of o b p = omega (arith, es, few) in
      let one = block_run o b p t inside in
      let two : IsRun (cramfs_places_at o b p) (4096 * t) (record {
        place = block_start (word o b q);
        len = min 4096 (cramfs_size_of o b p - 4096 * t);
      }) = subst (λ (v : ℕ). IsRun (cramfs_places_at o b p) (4096 * t) (record {
        place = block_start (word o b v);
        len = min 4096 (cramfs_size_of o b p - 4096 * t);
      })) (sym eq) one in
      let three : IsRun (cramfs_places_at o b p) (4096 * t) (run_of y) =
      subst (λ (v : ℕ). IsRun (cramfs_places_at o b p) (4096 * t)
      (record { place = block_start (word o b q); len = min 4096 v })) (sym es) two in
      let four : IsRun (cramfs_places_at o b p) offset (run_of y) =
      subst (λ (v : ℕ). IsRun (cramfs_places_at o b p) v (run_of y)) (sym eo) three in
      let five : IsRun (places_in rs blocks (cramfs_places_at o b) i) offset (run_of y) =
      subst (λ (v : List ℕ). IsRun v offset (run_of y)) (sym e) four in
      blocks_of p i (suc t) k (q + 4) (size - 4096) (offset + 4096) (with_block j xs y) e (omega (arith, eq))
      (omega (arith, es)) (omega (arith, eo)) (omega (arith, few))
      (block_of rs blocks (cramfs_places_at o b) j xs y h five)

  list_of : (p i : ℕ) (xs : List Extent) → Every Of xs → Every Of (with_list o b p i xs)
  list_of p i xs h = elim (cramfs_type_of o b p == 4) as
      (λ v. Every Of (if v then xs ++ found ListOf (offset_of o b p) (cramfs_size_of o b p) 0 i else xs)) [
        | true ↦ every_join Of xs (found ListOf (offset_of o b p) (cramfs_size_of o b p) 0 i) h
            (other_found rs blocks (cramfs_places_at o b) ListOf (λ e. absurd (cc)) (offset_of o b p)
            (cramfs_size_of o b p) 0 i)
        | false ↦ h
      ]

  contents_of : (p i : ℕ) (xs : List Extent)
      → (blocks p ≡ true → places_in rs blocks (cramfs_places_at o b) i ≡ cramfs_places_at o b p) → Every Of xs
      → Every Of (with_contents j o b p i xs)
  contents_of p i xs e h =
      let t = offset_of o b p in
      let size = cramfs_size_of o b p in
      let n = block_count size in
      let zs : List Extent = xs ++ found Table t (4 * n) 0 i in
      elim (blocks p) as (λ v. blocks p ≡ v → Every Of (if v then with_blocks j o b i zs n t size 0 else xs)) [
        | true ↦ λ d. blocks_of p i 0 n t size 0 zs (e d) (omega arith) (omega arith) refl (few_blocks size)
            (every_join Of xs (found Table t (4 * n) 0 i) h
            (other_found rs blocks (cramfs_places_at o b) Table (λ d. absurd (cc)) t (4 * n) 0 i))
        | false ↦ λ d. h
      ] refl

  record_of_table : (all : List Record) (n : ℕ) (x : Record) (xs : List Extent)
      → (blocks x.offset ≡ true → places_in rs blocks (cramfs_places_at o b) n ≡ cramfs_places_at o b x.offset)
      → Every Of xs → Every Of (with_record j o b all xs n x)
  record_of_table all n x xs e h = elim (is_first (table_in o b) all n x) as
      (λ v. Every Of (if v then with_contents j o b x.offset n (with_list o b x.offset n xs) else xs)) [
        | true ↦ contents_of x.offset n (with_list o b x.offset n xs) e (list_of x.offset n xs h)
        | false ↦ h
      ]

  pub records_of : (all : List Record) (n : ℕ) (before ys : List Record) (xs : List Extent) → rs ≡ before ++ ys
      → length before ≡ n → Every Of xs → Every Of (with_records j o b all xs n ys)
  records_of all n before [] xs is l h = h
  records_of all n before (x ∷ ys) xs is l h =
      let a = length-append before (x ∷ []) in
      records_of all (suc n) (before ++ x ∷ []) ys (with_record j o b all xs n x)
      (is ∙ moved before x ys) (omega (arith, a, l))
      (record_of_table all n x xs (places_is rs blocks (cramfs_places_at o b) before x ys n is l) h)
    where
      moved : (before : List Record) (x : Record) (ys : List Record) → before ++ x ∷ ys ≡ (before ++ x ∷ []) ++ ys
      moved [] x ys = refl
      moved (z ∷ zs) x ys = ap (λ (v : List Record). z ∷ v) (moved zs x ys)

module _ (rs : List Record) (b : List ℕ) where
  abbrev files : ℕ → Bool
  files p = has_data (type_of b p)

  abbrev pub OfRomfs : Extent → Type 0
  OfRomfs = IsOf rs files (places_at b)

  record_of : (p i : ℕ) → (files p ≡ true → places_in rs files (places_at b) i ≡ places_at b p)
      → Every OfRomfs (romfs_found b p i)
  unfolding places_at
  record_of p i e =
      every_join OfRomfs (found Header p (end_of b p - p) 0 i)
      (if files p then found Data (end_of b p) (size_of b p) 0 i else [])
      (other_found rs files (places_at b) Header (λ d. absurd (cc)) p (end_of b p - p) 0 i)
      (elim (files p) as
      (λ v. files p ≡ v → Every OfRomfs (if v then found Data (end_of b p) (size_of b p) 0 i else [])) [
        | true ↦ λ d. row_found rs files (places_at b) (end_of b p) (size_of b p) i (e d)
        | false ↦ λ d. tt
      ] refl)

  pub found_of : (n : ℕ) (before ys : List Record) → rs ≡ before ++ ys → length before ≡ n
      → Every OfRomfs (found_from (romfs_found b) n ys)
  found_of n before [] is l = tt
  found_of n before (x ∷ ys) is l =
      let a = length-append before (x ∷ []) in
      every_join OfRomfs (romfs_found b x.offset n) (found_from (romfs_found b) (suc n) ys)
      (record_of x.offset n (places_is rs files (places_at b) before x ys n is l))
      (found_of (suc n) (before ++ x ∷ []) ys (is ∙ moved before x ys) (omega (arith, a, l)))
    where
      moved : (before : List Record) (x : Record) (ys : List Record) → before ++ x ∷ ys ≡ (before ++ x ∷ []) ++ ys
      moved [] x ys = refl
      moved (z ∷ zs) x ys = ap (λ (v : List Record). z ∷ v) (moved zs x ys)
