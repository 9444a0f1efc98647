-- Each extent is the part of its record that its kind names.
use Rattle.std.proofs.Common.{◌≡◌, ℕ, zero, suc, ◌+◌, ◌-◌, ◌*◌, ◌==◌, Bool, true, false, List, [], ◌∷◌, ◌++◌}
use Rattle.std.proofs.Common.{length, length-append, min, refl, sym, ap, ◌∙◌, arith, if◌then◌else◌, eqb-true}
use Rattle.std.proofs.lemmas.List.Elements.{All-from_recursion}
use Rattle.std.proofs.lemmas.List.Sorted.{All-permutation}
use Rattle.std.specs.List.{All, AllByRecursion as Every}
use Rattle.std.specs.Prelude.{slice_get, Some}
use Rattle.record_forest.proofs.Lists.{every_join}
use Rattle.romfs_format.specs.Record.{end_of, has_data, size_of, type_of}
use Rattle.cramfs_format.specs.declared.order.Order.{Order}
use Rattle.cramfs_format.specs.Order.{word}
use Rattle.cramfs_format.specs.Inode.{block_count, block_start, offset_of}
use Rattle.cramfs_format.specs.Inode.{has_data as has_blocks, size_of as cramfs_size_of, type_of as cramfs_type_of}
use Rattle.image_extents.specs.declared.extent.Extent.{Extent}
use Rattle.image_extents.specs.declared.extent.Extents.{Extents}
use Rattle.image_extents.specs.declared.extent.Kind.{Kind}
use Rattle.image_extents.specs.declared.extent.Kind.TheVariants.{List as ListOf, Super, Header, Table, Data}
use Rattle.image_extents.specs.declared.extent.Record.{Record}
use Rattle.image_extents.specs.Found.{cramfs_all_found, found, found_from, goes_on, is_data, longer, romfs_all_found}
use Rattle.image_extents.specs.Found.{romfs_found, table_in, with_block, with_blocks, with_contents, with_list}
use Rattle.image_extents.specs.Found.{with_record, with_records}
use Rattle.image_extents.specs.Listed.{cramfs_listed, romfs_listed}
use Rattle.image_extents.specs.Parts.{IsCramfsPart, IsRomfsPart}
use Rattle.image_extents.specs.Sorted.{AreCramfs, AreRomfs}
use Rattle.image_extents.specs.Tables.{is_first}
use Rattle.image_extents.proofs.Named.{at_index}

moved : (before : List Record) (x : Record) (ys : List Record) → before ++ x ∷ ys ≡ (before ++ x ∷ []) ++ ys
moved [] x ys = refl
moved (z ∷ zs) x ys = ap (λ (v : List Record). z ∷ v) (moved zs x ys)

-- the record of a number, in a list that is divided there
there : (e : Extents) (before : List Record) (x : Record) (after : List Record) (n : ℕ)
    → e.records.items ≡ before ++ x ∷ after → length before ≡ n → slice_get e.records.items n ≡ Some x
there e before x after n is l =
    ap (λ (v : List Record). slice_get v n) is
    ∙ (ap (λ (v : ℕ). slice_get (before ++ x ∷ after) v) (sym l) ∙ at_index before x after)

-- an extent that has a byte
some_found : (P : Extent → Type 0) (kind : Kind) (start len offset i : ℕ)
    → ((n : ℕ) → suc n ≡ len
    → P (record { kind = kind; start = start; len = suc n; offset = offset; owner = i }))
    → Every P (found kind start len offset i)
some_found P kind start zero offset i h = tt
some_found P kind start (suc n) offset i h = (h n refl, tt)

-- ---- romfs

module _ (b : List ℕ) (r : ℕ) (e : Extents) where
  abbrev OfRomfs : Extent → Type 0
  OfRomfs x = IsRomfsPart b r e x x.kind

  romfs_one : (before : List Record) (x : Record) (after : List Record) (n : ℕ)
      → e.records.items ≡ before ++ x ∷ after → length before ≡ n → Every OfRomfs (romfs_found b x.offset n)
  romfs_one before x after n is l =
      let at = there e before x after n is l in
      let p = x.offset in
      every_join OfRomfs (found Header p (end_of b p - p) 0 n)
      (if has_data (type_of b p) then found Data (end_of b p) (size_of b p) 0 n else [])
      (some_found OfRomfs Header p (end_of b p - p) 0 n (λ m k. (x, at, (refl, k))))
      (elim (has_data (type_of b p)) as (λ v. has_data (type_of b p) ≡ v
      → Every OfRomfs (if v then found Data (end_of b p) (size_of b p) 0 n else [])) [
        | true ↦ λ d. some_found OfRomfs Data (end_of b p) (size_of b p) 0 n (λ m k. (x, at, d))
        | false ↦ λ d. tt
      ] refl)

  romfs_from : (n : ℕ) (before ys : List Record) → e.records.items ≡ before ++ ys → length before ≡ n
      → Every OfRomfs (found_from (romfs_found b) n ys)
  romfs_from n before [] is l = tt
  romfs_from n before (x ∷ ys) is l =
      let a = length-append before (x ∷ []) in
      every_join OfRomfs (romfs_found b x.offset n) (found_from (romfs_found b) (suc n) ys)
      (romfs_one before x ys n is l)
      (romfs_from (suc n) (before ++ x ∷ []) ys (is ∙ moved before x ys) (omega (arith, a, l)))

  romfs_all : e.records.items ≡ romfs_listed b r → Every OfRomfs (romfs_all_found b r)
  unfolding romfs_all_found
  romfs_all is = every_join OfRomfs (found Super 0 r 0 0) (found_from (romfs_found b) 0 (romfs_listed b r))
      (some_found OfRomfs Super 0 r 0 0 (λ m k. (refl, refl, k)))
      (romfs_from 0 [] (romfs_listed b r) is refl)

pub romfs_parts : (b : List ℕ) (r : ℕ) (e : Extents) → AreRomfs b r e
    → All (λ (x : Extent). IsRomfsPart b r e x x.kind) e.extents.items
romfs_parts b r e a =
    let P : Extent → Type 0 = λ x. IsRomfsPart b r e x x.kind in
    All-permutation P (romfs_all_found b r) e.extents.items a.extents.same
    (All-from_recursion P (romfs_all_found b r) (romfs_all b r e a.records))

-- ---- cramfs

module _ (j : Bool) (o : Order) (b : List ℕ) (e : Extents) where
  abbrev OfCramfs : Extent → Type 0
  OfCramfs x = IsCramfsPart o b e x x.kind

  -- data that go on belong to the same record
  longer_part : (x y : Extent) (k : Kind) → is_data k ≡ true → IsCramfsPart o b e x k
      → IsCramfsPart o b e (longer x y) k
  longer_part x y Data d h = h
  longer_part x y Super d h = absurd (cc)
  longer_part x y Header d h = absurd (cc)
  longer_part x y ListOf d h = absurd (cc)
  longer_part x y Table d h = absurd (cc)

  first_true : (c d : Bool) → (if c then d else false) ≡ true → c ≡ true
  first_true true d h = refl
  first_true false d h = absurd (cc)

  second_true : (c d : Bool) → (if c then d else false) ≡ true → d ≡ true
  second_true true d h = h
  second_true false d h = absurd (cc)

  data_goes_on : (x y : Extent) → goes_on x y ≡ true → is_data x.kind ≡ true
  data_goes_on x y g = first_true (is_data x.kind) _ g

  block_part : (xs : List Extent) (y : Extent) → Every OfCramfs xs → OfCramfs y → Every OfCramfs (with_block j xs y)
  block_part [] y h k = (k, tt)
  block_part (x ∷ []) y h k = elim (if j then goes_on x y else false) as
      (λ v. (if j then goes_on x y else false) ≡ v → Every OfCramfs (if v then longer x y ∷ [] else x ∷ y ∷ [])) [
        | true ↦ λ g. (longer_part x y x.kind (data_goes_on x y (second_true j (goes_on x y) g)) h.0, tt)
        | false ↦ λ g. (h.0, (k, tt))
      ] refl
  block_part (x ∷ z ∷ zs) y h k = (h.0, block_part (z ∷ zs) y h.1 k)

  module _ (x : Record) (n : ℕ) (at : slice_get e.records.items n ≡ Some x) where
    blocks_part : has_blocks (cramfs_type_of o b x.offset) ≡ true → (xs : List Extent) (k q size offset : ℕ)
        → Every OfCramfs xs → Every OfCramfs (with_blocks j o b n xs k q size offset)
    blocks_part d xs zero q size offset h = h
    blocks_part d xs (suc k) q size offset h =
        let y : Extent =
        record { kind = Data; start = block_start (word o b q); len = min 4096 size; offset = offset; owner = n } in
        blocks_part d (with_block j xs y) k (q + 4) (size - 4096) (offset + 4096) (block_part xs y h (x, at, d))

    list_part : (xs : List Extent) → Every OfCramfs xs → Every OfCramfs (with_list o b x.offset n xs)
    list_part xs h =
        let p = x.offset in
        elim (cramfs_type_of o b p == 4) as
        (λ v. (cramfs_type_of o b p == 4) ≡ v
        → Every OfCramfs (if v then xs ++ found ListOf (offset_of o b p) (cramfs_size_of o b p) 0 n else xs)) [
          | true ↦ λ t. every_join OfCramfs xs (found ListOf (offset_of o b p) (cramfs_size_of o b p) 0 n) h
              (some_found OfCramfs ListOf (offset_of o b p) (cramfs_size_of o b p) 0 n
              (λ m k. (x, at, (eqb-true (cramfs_type_of o b p) 4 t, refl, k))))
          | false ↦ λ t. h
        ] refl

    contents_part : (xs : List Extent) → Every OfCramfs xs → Every OfCramfs (with_contents j o b x.offset n xs)
    contents_part xs h =
        let p = x.offset in
        let t = offset_of o b p in
        let size = cramfs_size_of o b p in
        let count = block_count size in
        let zs : List Extent = xs ++ found Table t (4 * count) 0 n in
        elim (has_blocks (cramfs_type_of o b p)) as
        (λ v. has_blocks (cramfs_type_of o b p) ≡ v
        → Every OfCramfs (if v then with_blocks j o b n zs count t size 0 else xs)) [
          | true ↦ λ d. blocks_part d zs count t size 0
              (every_join OfCramfs xs (found Table t (4 * count) 0 n) h
              (some_found OfCramfs Table t (4 * count) 0 n (λ m k. (x, at, (d, refl, k)))))
          | false ↦ λ d. h
        ] refl

    record_part : (all : List Record) (xs : List Extent) → Every OfCramfs xs
        → Every OfCramfs (with_record j o b all xs n x)
    record_part all xs h = elim (is_first (table_in o b) all n x) as
        (λ v. Every OfCramfs (if v then with_contents j o b x.offset n (with_list o b x.offset n xs) else xs)) [
          | true ↦ contents_part (with_list o b x.offset n xs) (list_part xs h)
          | false ↦ h
        ]

  records_part : (all : List Record) (n : ℕ) (before ys : List Record) (xs : List Extent)
      → e.records.items ≡ before ++ ys → length before ≡ n → Every OfCramfs xs
      → Every OfCramfs (with_records j o b all xs n ys)
  records_part all n before [] xs is l h = h
  records_part all n before (x ∷ ys) xs is l h =
      let a = length-append before (x ∷ []) in
      records_part all (suc n) (before ++ x ∷ []) ys (with_record j o b all xs n x)
      (is ∙ moved before x ys) (omega (arith, a, l)) (record_part x n (there e before x ys n is l) all xs h)

  cramfs_all : e.records.items ≡ cramfs_listed o b → Every OfCramfs (cramfs_all_found j o b)
  unfolding cramfs_all_found
  cramfs_all is = records_part (cramfs_listed o b) 0 [] (cramfs_listed o b) (found Super 0 76 0 0) is refl
      (some_found OfCramfs Super 0 76 0 0 (λ m k. (refl, refl, k)))

pub cramfs_parts : (o : Order) (b : List ℕ) (e : Extents) → AreCramfs o b e
    → All (λ (x : Extent). IsCramfsPart o b e x x.kind) e.extents.items
cramfs_parts o b e a =
    let P : Extent → Type 0 = λ x. IsCramfsPart o b e x x.kind in
    All-permutation P (cramfs_all_found a.joined o b) e.extents.items a.blocks.extents.same
    (All-from_recursion P (cramfs_all_found a.joined o b) (cramfs_all a.joined o b e a.blocks.records))
