-- Each byte of a record's data is collected, and stays collected.
use Rattle.std.proofs.Common.{◌≡◌, ◌≤◌, ◌<◌, ◌/◌, ◌%◌, ℕ, zero, suc, ◌+◌, ◌-◌, ◌*◌, ◌==◌, Bool, true, false, List, []}
use Rattle.std.proofs.Common.{◌∷◌, ◌++◌, ◌⊎◌, length, min, refl, sym, subst, ◌∙◌, arith, inl, inr}
use Rattle.std.proofs.Common.{if◌then◌else◌, eqb-true}
use Rattle.std.proofs.lemmas.Bool.{false≢true}
use Rattle.std.specs.List.{Contains}
use Rattle.std.specs.Prelude.{slice_index}
use Rattle.cramfs_format.specs.declared.order.Order.{Order}
use Rattle.cramfs_format.specs.Order.{word}
use Rattle.cramfs_format.specs.Inode.{block_count, block_start, offset_of, pointer_place}
use Rattle.cramfs_format.specs.Inode.{has_data as has_blocks, size_of as cramfs_size_of, type_of as cramfs_type_of}
use Rattle.cramfs_format.specs.Tree.{places_at as cramfs_places_at}
use Rattle.cramfs_format.proofs.Contents.{place_at}
use Rattle.image_extents.specs.declared.extent.Record.{Record}
use Rattle.image_extents.specs.declared.extent.Extent.{Extent}
use Rattle.image_extents.specs.declared.extent.Kind.{Kind}
use Rattle.image_extents.specs.declared.extent.Kind.TheVariants.{Super, Header, List as ListOf, Table, Data}
use Rattle.image_extents.specs.Found.{cramfs_all_found, found, goes_on, is_data, longer, table_in, with_block}
use Rattle.image_extents.specs.Found.{with_blocks, with_contents, with_list, with_record, with_records}
use Rattle.image_extents.specs.Listed.{cramfs_listed}
use Rattle.image_extents.specs.Tables.{is_first}
use Rattle.image_extents.proofs.Named.{contains_more}

-- one of the extents
abbrev pub Any : (Extent → Type 0) → List Extent → Type 0
Any P [] = ⊥
Any P (x ∷ xs) = P x ⊎ Any P xs

pub any_left : (P : Extent → Type 0) (xs ys : List Extent) → Any P xs → Any P (xs ++ ys)
any_left P [] ys h = absurd h
any_left P (x ∷ xs) ys (inl h) = inl h
any_left P (x ∷ xs) ys (inr h) = inr (any_left P xs ys h)

pub any_right : (P : Extent → Type 0) (xs ys : List Extent) → Any P ys → Any P (xs ++ ys)
any_right P [] ys h = h
any_right P (x ∷ xs) ys h = inr (any_right P xs ys h)

pub record IsAmong (P : Extent → Type 0) (xs : List Extent) : Type 0 where
  pub extent : Extent
  pub among : Contains xs extent
  pub holds : P extent

pub any_among : (P : Extent → Type 0) (xs : List Extent) → Any P xs → IsAmong P xs
any_among P [] h = absurd h
any_among P (x ∷ xs) (inl h) = record { extent = x; among = (0, omega arith, refl); holds = h }
any_among P (x ∷ xs) (inr h) =
    let i = any_among P xs h in
    record { extent = i.extent; among = contains_more i.extent x xs i.among; holds = i.holds }

-- the extent has the byte at p as byte k of the contents of the m-th record
pub record Has (m k p : ℕ) (x : Extent) : Type 0 where
  pub kind : x.kind ≡ Data
  pub owner : x.owner ≡ m
  pub low : x.start ≤ p
  pub high : p < x.start + x.len
  pub byte : x.offset + (p - x.start) ≡ k

if_true : (c d : Bool) → (if c then d else false) ≡ true → (c ≡ true) × (d ≡ true)
if_true true d h = (refl, h)
if_true false d h = absurd (false≢true h)

is_of_data : (k : Kind) → is_data k ≡ true → k ≡ Data
is_of_data Super e = absurd (false≢true e)
is_of_data Header e = absurd (false≢true e)
is_of_data ListOf e = absurd (false≢true e)
is_of_data Table e = absurd (false≢true e)
is_of_data Data e = refl

module _ (m k p : ℕ) where
  longer_old : (x y : Extent) → Has m k p x → Has m k p (longer x y)
  longer_old x y h =
      let t = h.high in
      record { kind = h.kind; owner = h.owner; low = h.low; high = omega (arith, t); byte = h.byte }

  longer_new : (x y : Extent) → goes_on x y ≡ true → Has m k p y → Has m k p (longer x y)
  longer_new x y g h =
      let a = if_true (is_data x.kind) _ g in
      let owner = if_true (x.owner == y.owner) _ a.1 in
      let start = if_true (x.start + x.len == y.start) _ owner.1 in
      let offset = if_true (x.offset + x.len == y.offset) _ start.1 in
      let same : x.owner ≡ y.owner = eqb-true x.owner y.owner owner.0 in
      let at : x.offset + x.len ≡ y.offset = eqb-true (x.offset + x.len) y.offset offset.0 in
      let from : x.start + x.len ≡ y.start = eqb-true (x.start + x.len) y.start start.0 in
      let l = h.low in
      let t = h.high in
      let b = h.byte in
      record {
        kind = is_of_data x.kind a.0;
        owner = same ∙ h.owner;
        low = omega (arith, l, from);
        high = omega (arith, t, from);
        byte = omega (arith, l, from, at, b);
      }

  block_keeps : (j : Bool) (xs : List Extent) (y : Extent) → Any (Has m k p) xs → Any (Has m k p) (with_block j xs y)
  block_keeps j [] y h = absurd h
  block_keeps j (x ∷ []) y (inl h) = elim (if j then goes_on x y else false) as
      (λ v. Any (Has m k p) (if v then longer x y ∷ [] else x ∷ y ∷ []))
      [ true ↦ inl (longer_old x y h) | false ↦ inl h ]
  block_keeps j (x ∷ []) y (inr h) = absurd h
  block_keeps j (x ∷ z ∷ zs) y (inl h) = inl h
  block_keeps j (x ∷ z ∷ zs) y (inr h) = inr (block_keeps j (z ∷ zs) y h)

  block_adds : (j : Bool) (xs : List Extent) (y : Extent) → Has m k p y → Any (Has m k p) (with_block j xs y)
  block_adds j [] y h = inl h
  block_adds j (x ∷ []) y h = elim (if j then goes_on x y else false) as
      (λ v. (if j then goes_on x y else false) ≡ v → Any (Has m k p) (if v then longer x y ∷ [] else x ∷ y ∷ [])) [
        | true ↦ λ e. inl (longer_new x y (if_true j (goes_on x y) e).1 h)
        | false ↦ λ e. inr (inl h)
      ] refl
  block_adds j (x ∷ z ∷ zs) y h = inr (block_adds j (z ∷ zs) y h)

  module _ (j : Bool) (o : Order) (b : List ℕ) where
    abbrev block : ℕ → ℕ → ℕ → ℕ → Extent
    block i q size offset =
        record { kind = Data; start = block_start (word o b q); len = min 4096 size; offset = offset; owner = i }

    same_block : (i q q' size size' offset offset' : ℕ) → q ≡ q' → size ≡ size' → offset ≡ offset'
        → Has m k p (block i q size offset) → Has m k p (block i q' size' offset')
    same_block i q q' size size' offset offset' eq es eo h =
        subst (λ (v : ℕ). Has m k p (block i v size' offset')) eq
        (subst (λ (v : ℕ). Has m k p (block i q v offset')) es
        (subst (λ (v : ℕ). Has m k p (block i q size v)) eo h))

    blocks_keep : (i : ℕ) (xs : List Extent) (n q size offset : ℕ) → Any (Has m k p) xs
        → Any (Has m k p) (with_blocks j o b i xs n q size offset)
    blocks_keep i xs zero q size offset h = h
    blocks_keep i xs (suc n) q size offset h =
        blocks_keep i (with_block j xs (block i q size offset)) n (q + 4) (size - 4096) (offset + 4096)
        (block_keeps j xs (block i q size offset) h)

    -- the s-th block from here on
    blocks_add : (i : ℕ) (xs : List Extent) (n q size offset s : ℕ) → s < n
        → Has m k p (block i (q + 4 * s) (size - 4096 * s) (offset + 4096 * s))
        → Any (Has m k p) (with_blocks j o b i xs n q size offset)
    blocks_add i xs zero q size offset s l h = absurd (omega (arith, l))
    blocks_add i xs (suc n) q size offset zero l h =
        blocks_keep i (with_block j xs (block i q size offset)) n (q + 4) (size - 4096) (offset + 4096)
        (block_adds j xs (block i q size offset)
        (same_block i (q + 4 * 0) q (size - 4096 * 0) size (offset + 4096 * 0) offset (omega arith) (omega arith)
        (omega arith) h))
    blocks_add i xs (suc n) q size offset (suc s) l h =
        blocks_add i (with_block j xs (block i q size offset)) n (q + 4) (size - 4096) (offset + 4096) s
        (omega (arith, l))
        (same_block i (q + 4 * suc s) (q + 4 + 4 * s) (size - 4096 * suc s) (size - 4096 - 4096 * s)
        (offset + 4096 * suc s) (offset + 4096 + 4096 * s) (omega arith) (omega arith) (omega arith) h)

    list_keeps : (r i : ℕ) (xs : List Extent) → Any (Has m k p) xs → Any (Has m k p) (with_list o b r i xs)
    list_keeps r i xs h = elim (cramfs_type_of o b r == 4) as
        (λ v. Any (Has m k p) (if v then xs ++ found ListOf (offset_of o b r) (cramfs_size_of o b r) 0 i else xs)) [
          | true ↦ any_left (Has m k p) xs (found ListOf (offset_of o b r) (cramfs_size_of o b r) 0 i) h
          | false ↦ h
        ]

    contents_keep : (r i : ℕ) (xs : List Extent) → Any (Has m k p) xs
        → Any (Has m k p) (with_contents j o b r i xs)
    contents_keep r i xs h =
        let t = offset_of o b r in
        let size = cramfs_size_of o b r in
        let n = block_count size in
        let zs : List Extent = xs ++ found Table t (4 * n) 0 i in
        elim (has_blocks (cramfs_type_of o b r)) as
        (λ v. Any (Has m k p) (if v then with_blocks j o b i zs n t size 0 else xs)) [
          | true ↦ blocks_keep i zs n t size 0 (any_left (Has m k p) xs (found Table t (4 * n) 0 i) h)
          | false ↦ h
        ]

    record_keeps : (all : List Record) (n : ℕ) (x : Record) (xs : List Extent) → Any (Has m k p) xs
        → Any (Has m k p) (with_record j o b all xs n x)
    record_keeps all n x xs h = elim (is_first (table_in o b) all n x) as
        (λ v. Any (Has m k p) (if v then with_contents j o b x.offset n (with_list o b x.offset n xs) else xs)) [
          | true ↦ contents_keep x.offset n (with_list o b x.offset n xs) (list_keeps x.offset n xs h)
          | false ↦ h
        ]

    records_keep : (all : List Record) (n : ℕ) (ys : List Record) (xs : List Extent) → Any (Has m k p) xs
        → Any (Has m k p) (with_records j o b all xs n ys)
    records_keep all n [] xs h = h
    records_keep all n (y ∷ ys) xs h =
        records_keep all (suc n) ys (with_record j o b all xs n y) (record_keeps all n y xs h)

    -- the contents of the first record with some block pointers
    contents_add : (r i s : ℕ) (xs : List Extent) → has_blocks (cramfs_type_of o b r) ≡ true
        → s < block_count (cramfs_size_of o b r)
        → Has m k p (block i (offset_of o b r + 4 * s) (cramfs_size_of o b r - 4096 * s) (4096 * s))
        → Any (Has m k p) (with_contents j o b r i xs)
    contents_add r i s xs d l h =
        let t = offset_of o b r in
        let size = cramfs_size_of o b r in
        let n = block_count size in
        let zs : List Extent = xs ++ found Table t (4 * n) 0 i in
        subst (λ v. Any (Has m k p) (if v then with_blocks j o b i zs n t size 0 else xs)) (sym d)
        (blocks_add i zs n t size 0 s l
        (same_block i (t + 4 * s) (t + 4 * s) (size - 4096 * s) (size - 4096 * s) (4096 * s) (0 + 4096 * s) refl refl
        (omega arith) h))

    records_add : (all : List Record) (n q s : ℕ) (before : List Record) (x : Record) (after : List Record)
        (xs : List Extent) → q ≡ n + length before → is_first (table_in o b) all q x ≡ true
        → has_blocks (cramfs_type_of o b x.offset) ≡ true → s < block_count (cramfs_size_of o b x.offset)
        → Has m k p (block q (offset_of o b x.offset + 4 * s) (cramfs_size_of o b x.offset - 4096 * s) (4096 * s))
        → Any (Has m k p) (with_records j o b all xs n (before ++ x ∷ after))
    records_add all n q s [] x after xs e f d l h =
        let z : q ≡ n = omega (arith, e) in
        let more : List Extent → Extent → Type 0 = λ ys y. Any (Has m k p) ys in
        records_keep all (suc n) after (with_record j o b all xs n x)
        (subst (λ (v : ℕ). Any (Has m k p) (with_record j o b all xs v x)) z
        (subst
        (λ v. Any (Has m k p) (if v then with_contents j o b x.offset q (with_list o b x.offset q xs) else xs)) (sym f)
        (contents_add x.offset q s (with_list o b x.offset q xs) d l h)))
    records_add all n q s (y ∷ ys) x after xs e f d l h =
        records_add all (suc n) q s ys x after (with_record j o b all xs n y) (omega (arith, e)) f d l h

-- the byte k of the record at r is in its block k / 4096
byte_of_block : (o : Order) (b : List ℕ) (r i k : ℕ) → k < cramfs_size_of o b r
    → Has i k (slice_index (cramfs_places_at o b r) k)
    (record {
      kind = Data;
      start = block_start (word o b (offset_of o b r + 4 * (k / 4096)));
      len = min 4096 (cramfs_size_of o b r - 4096 * (k / 4096));
      offset = 4096 * (k / 4096);
      owner = i;
    })
unfolding pointer_place
byte_of_block o b r i k l =
    let s = block_start (word o b (offset_of o b r + 4 * (k / 4096))) in
    let e : slice_index (cramfs_places_at o b r) k ≡ s + k % 4096 = place_at o b r k l in
    record {
      kind = refl;
      owner = refl;
      low = omega (arith, e);
      high = grind (arith, e, l);
      byte = grind (arith, e);
    }

few : (k size : ℕ) → k < size → k / 4096 < block_count size
few k size l = omega (arith, l)

pub cramfs_has : (j : Bool) (o : Order) (b : List ℕ) (k : ℕ) (before : List Record) (x : Record) (after : List Record)
    → cramfs_listed o b ≡ before ++ x ∷ after → is_first (table_in o b) (cramfs_listed o b) (length before) x ≡ true
    → has_blocks (cramfs_type_of o b x.offset) ≡ true → k < cramfs_size_of o b x.offset
    → Any (Has (length before) k (slice_index (cramfs_places_at o b x.offset) k)) (cramfs_all_found j o b)
unfolding cramfs_all_found
cramfs_has j o b k before x after is f d l =
    let H : Extent → Type 0 = Has (length before) k (slice_index (cramfs_places_at o b x.offset) k) in
    let rs : List Record = cramfs_listed o b in
    subst (λ (v : List Record). Any H (with_records j o b rs (found Super 0 76 0 0) 0 v)) (sym is)
    (records_add (length before) k (slice_index (cramfs_places_at o b x.offset) k) j o b rs 0 (length before) (k / 4096)
    before x after (found Super 0 76 0 0) (omega arith) f d (few k (cramfs_size_of o b x.offset) l)
    (byte_of_block o b x.offset (length before) k l))
