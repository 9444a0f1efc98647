-- The records of collected extents are the first ones with their block pointers.
use Rattle.std.proofs.Common.{◌≡◌, ◌≤◌, ◌<◌, ℕ, zero, suc, ◌+◌, ◌-◌, ◌*◌, ◌==◌, Bool, true, false, List, [], ◌∷◌, ◌++◌}
use Rattle.std.proofs.Common.{length, length-append, min, refl, sym, ap, subst, ◌∙◌, arith, inl, inr, get_or}
use Rattle.std.proofs.Common.{if◌then◌else◌}
use Rattle.std.proofs.lemmas.Bool.{cases_lt}
use Rattle.std.proofs.lemmas.List.Elements.{All-from_recursion}
use Rattle.std.proofs.lemmas.List.Sorted.{All-permutation}
use Rattle.std.specs.List.{All, AllByRecursion as Every}
use Rattle.std.specs.Prelude.{slice_get, Option, Some}
use Rattle.record_forest.proofs.Lists.{every_join}
use Rattle.cramfs_format.specs.declared.order.Order.{Order}
use Rattle.cramfs_format.specs.Order.{word}
use Rattle.cramfs_format.specs.Inode.{block_count, block_start, offset_of}
use Rattle.cramfs_format.specs.Inode.{has_data as has_blocks, size_of as cramfs_size_of, type_of as cramfs_type_of}
use Rattle.image_extents.specs.declared.extent.Record.{Record}
use Rattle.image_extents.specs.declared.extent.Extent.{Extent}
use Rattle.image_extents.specs.declared.extent.Extents.{Extents}
use Rattle.image_extents.specs.declared.extent.Kind.{Kind}
use Rattle.image_extents.specs.declared.extent.Kind.TheVariants.{List as ListOf, Super, Table, Data}
use Rattle.image_extents.specs.Found.{cramfs_all_found, cramfs_nexts, found, goes_on, longer, table_in, with_block}
use Rattle.image_extents.specs.Found.{with_blocks, with_contents, with_list, with_record, with_records}
use Rattle.image_extents.specs.Listed.{cramfs_listed}
use Rattle.image_extents.specs.Lines.{owners}
use Rattle.image_extents.specs.Owned.{HasOwners, table_at}
use Rattle.image_extents.specs.Sorted.{AreCramfs}
use Rattle.image_extents.specs.Tables.{is_first, nexts, table_by}
use Rattle.image_extents.proofs.Named.{at_index}
use Rattle.image_extents.proofs.Sharing.{first_low, led_all, led_same, none_some}
use Rattle.image_extents.proofs.Texts.{no_record}

-- ---- what holds of the records holds of the owners

module _ (P : ℕ → Type 0) (j : Bool) (o : Order) (b : List ℕ) where
  abbrev pub Own : Extent → Type 0
  Own x = P x.owner

  found_own : (kind : Kind) (start len offset i : ℕ) → P i → Every Own (found kind start len offset i)
  found_own kind start zero offset i h = tt
  found_own kind start (suc n) offset i h = (h, tt)

  block_own : (xs : List Extent) (y : Extent) → Every Own xs → P y.owner → Every Own (with_block j xs y)
  block_own [] y h k = (k, tt)
  block_own (x ∷ []) y h k = elim (if j then goes_on x y else false) as
      (λ v. Every Own (if v then longer x y ∷ [] else x ∷ y ∷ []))
      [ true ↦ (h.0, tt) | false ↦ (h.0, (k, tt)) ]
  block_own (x ∷ z ∷ zs) y h k = (h.0, block_own (z ∷ zs) y h.1 k)

  blocks_own : (i : ℕ) (xs : List Extent) (k q size offset : ℕ) → P i → Every Own xs
      → Every Own (with_blocks j o b i xs k q size offset)
  blocks_own i xs zero q size offset p h = h
  blocks_own i xs (suc k) q size offset p h =
      let y : Extent =
      record { kind = Data; start = block_start (word o b q); len = min 4096 size; offset = offset; owner = i } in
      blocks_own i (with_block j xs y) k (q + 4) (size - 4096) (offset + 4096) p (block_own xs y h p)

  list_own : (p i : ℕ) (xs : List Extent) → P i → Every Own xs → Every Own (with_list o b p i xs)
  list_own p i xs k h = elim (cramfs_type_of o b p == 4) as
      (λ v. Every Own (if v then xs ++ found ListOf (offset_of o b p) (cramfs_size_of o b p) 0 i else xs)) [
        | true ↦ every_join Own xs (found ListOf (offset_of o b p) (cramfs_size_of o b p) 0 i) h
            (found_own ListOf (offset_of o b p) (cramfs_size_of o b p) 0 i k)
        | false ↦ h
      ]

  contents_own : (p i : ℕ) (xs : List Extent) → P i → Every Own xs → Every Own (with_contents j o b p i xs)
  contents_own p i xs k h =
      let t = offset_of o b p in
      let size = cramfs_size_of o b p in
      let n = block_count size in
      let zs : List Extent = xs ++ found Table t (4 * n) 0 i in
      elim (has_blocks (cramfs_type_of o b p)) as
      (λ v. Every Own (if v then with_blocks j o b i zs n t size 0 else xs)) [
        | true ↦ blocks_own i zs n t size 0 k
            (every_join Own xs (found Table t (4 * n) 0 i) h (found_own Table t (4 * n) 0 i k))
        | false ↦ h
      ]

  record_own : (all : List Record) (n : ℕ) (x : Record) (xs : List Extent)
      → (is_first (table_in o b) all n x ≡ true → P n) → Every Own xs → Every Own (with_record j o b all xs n x)
  record_own all n x xs e h = elim (is_first (table_in o b) all n x) as
      (λ v. (is_first (table_in o b) all n x ≡ v)
      → Every Own (if v then with_contents j o b x.offset n (with_list o b x.offset n xs) else xs)) [
        | true ↦ λ f. contents_own x.offset n (with_list o b x.offset n xs) (e f) (list_own x.offset n xs (e f) h)
        | false ↦ λ f. h
      ] refl

  records_own : (all : List Record)
      → ((before : List Record) (x : Record) (after : List Record) → all ≡ before ++ x ∷ after
      → is_first (table_in o b) all (length before) x ≡ true → P (length before))
      → (n : ℕ) (before ys : List Record) (xs : List Extent) → all ≡ before ++ ys → length before ≡ n
      → Every Own xs → Every Own (with_records j o b all xs n ys)
  records_own all each n before [] xs is l h = h
  records_own all each n before (x ∷ ys) xs is l h =
      let a = length-append before (x ∷ []) in
      records_own all each (suc n) (before ++ x ∷ []) ys (with_record j o b all xs n x)
      (is ∙ moved before x ys) (omega (arith, a, l))
      (record_own all n x xs (λ f. subst P l (each before x ys is
      (ap (λ (v : ℕ). is_first (table_in o b) all v x) l ∙ f))) h)
    where
      moved : (before : List Record) (x : Record) (ys : List Record) → before ++ x ∷ ys ≡ (before ++ x ∷ []) ++ ys
      moved [] x ys = refl
      moved (z ∷ zs) x ys = ap (λ (v : List Record). z ∷ v) (moved zs x ys)

-- ---- cramfs

module _ (table : Record → Option (ℕ × ℕ)) (rs : List Record) where
  -- no record before the n-th has its block pointers
  abbrev pub IsLow : ℕ → Type 0
  IsLow n = (t : ℕ × ℕ) (i : ℕ) → table_by table (slice_get rs n) ≡ Some t → table_by table (slice_get rs i) ≡ Some t
      → n ≤ i

  low_at : (before : List Record) (x : Record) (after : List Record) → rs ≡ before ++ x ∷ after
      → is_first table rs (length before) x ≡ true → IsLow (length before)
  low_at before x after is f = λ t i e k.
      let there : slice_get rs (length before) ≡ Some x =
      ap (λ (v : List Record). slice_get v (length before)) is ∙ at_index before x after in
      first_low table rs (length before) x f t i (sym (ap (table_by table) there) ∙ e) k

  is_there : (t : ℕ × ℕ) (i : ℕ) → table_by table (slice_get rs i) ≡ Some t → i < length rs
  is_there t i e = elim (cases_lt i (length rs)) [
    | inl l ↦ l
    | inr l ↦ absurd (none_some t (sym (ap (table_by table) (no_record rs i l)) ∙ e))
  ]

-- the owners of an extent whose record is the first
owners_of : (table : Record → Option (ℕ × ℕ)) (rs : List Record) (e : Extents) (x : Extent) → e.records.items ≡ rs
    → e.next.items ≡ nexts table 0 rs → IsLow table rs x.owner → HasOwners table e x
owners_of table rs e x is next low = λ t has i.
    let at : (i : ℕ) → table_at table e i ≡ table_by table (slice_get rs i) =
    λ i. ap (λ (v : List Record). table_by table (slice_get v i)) is in
    let own : table_by table (slice_get rs x.owner) ≡ Some t = sym (at x.owner) ∙ has in
    let most : ℕ = length e.records.items in
    let Same : ℕ → Type 0 = λ k. table_by table (slice_get rs k) ≡ table_by table (slice_get rs x.owner) in
    let same : All Same (owners e x) = All-from_recursion Same (owners e x)
    (led_same table rs e.next.items next most x.owner) in
    let count : length e.records.items ≡ length rs = ap length is in (
      λ c. at i ∙ subst Same c.2 (same c.0 i c.1) ∙ own,
      λ k.
          let there : table_by table (slice_get rs i) ≡ Some t = sym (at i) ∙ k in
          let within = is_there table rs t i there in
          led_all table rs e.next.items next t most x.owner i own there (low t i own there)
          (omega (arith, count, within)),
    )

nexts_are : (o : Order) (b : List ℕ) → cramfs_nexts o b ≡ nexts (table_in o b) 0 (cramfs_listed o b)
unfolding cramfs_nexts
nexts_are o b = refl

firsts_own : (j : Bool) (o : Order) (b : List ℕ)
    → Every (λ (x : Extent). IsLow (table_in o b) (cramfs_listed o b) x.owner) (cramfs_all_found j o b)
unfolding cramfs_all_found
firsts_own j o b =
    let rs : List Record = cramfs_listed o b in
    let P : ℕ → Type 0 = IsLow (table_in o b) rs in
    records_own P j o b rs (low_at (table_in o b) rs) 0 [] rs (found Super 0 76 0 0) refl refl
    (found_own P j o b Super 0 76 0 0 (λ t i h k. omega arith))

pub cramfs_owners : (o : Order) (b : List ℕ) (e : Extents) → AreCramfs o b e
    → All (HasOwners (table_in o b) e) e.extents.items
cramfs_owners o b e a =
    let rs : List Record = cramfs_listed o b in
    let Low : Extent → Type 0 = λ x. IsLow (table_in o b) rs x.owner in
    let lows : All Low e.extents.items =
    All-permutation Low (cramfs_all_found a.joined o b) e.extents.items a.blocks.extents.same
    (All-from_recursion Low (cramfs_all_found a.joined o b) (firsts_own a.joined o b)) in
    λ k d l. owners_of (table_in o b) rs e (get_or e.extents.items k d) a.blocks.records
    (a.blocks.next ∙ nexts_are o b) (lows k d l)
