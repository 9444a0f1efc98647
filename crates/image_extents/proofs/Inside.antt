-- The extents of a checked image have bytes, all of them among the accessible ones.
use Rattle.std.proofs.Common.{◌≡◌, ◌≢◌, ◌≤◌, ◌<◌, ℕ, zero, suc, ◌+◌, ◌-◌, ◌*◌, ◌==◌, Bool, true, false, List, []}
use Rattle.std.proofs.Common.{◌∷◌, ◌++◌, length, min, length-take, refl, sym, subst, arith, if◌then◌else◌}
use Rattle.std.proofs.lemmas.Bool.{eqb-true, true≢false}
use Rattle.std.proofs.lemmas.List.Elements.{recursion_from_All, All-from_recursion}
use Rattle.std.proofs.lemmas.List.Sorted.{All-permutation}
use Rattle.std.specs.List.{AllByRecursion as Every}
use Rattle.std.specs.List.Sorted.{IsPermutation}
use Rattle.image_extents.specs.declared.extent.Extents.{Extents}
use Rattle.record_forest.specs.declared.reference.Reference.{Reference}
use Rattle.record_forest.specs.declared.reference.Row.{Row}
use Rattle.record_forest.specs.Forest.{Forest, none, at, rows, all_rows, count, Everywhere, stands_in}
use Rattle.record_forest.specs.References.{References}
use Rattle.record_forest.proofs.Lists.{every_left, every_right, every_join, every_weaker, every_both}
use Rattle.romfs_format.specs.Record.{IsSound, end_of, size_of, type_of, has_data}
use Rattle.romfs_format.specs.Refers.{references, reference_offset}
use Rattle.romfs_format.specs.Superblock.{accessible}
use Rattle.romfs_format.specs.Tree.{root_of}
use Rattle.romfs_format.proofs.Bridge.{all_targets}
use Rattle.cramfs_format.specs.declared.order.Order.{Order}
use Rattle.cramfs_format.specs.Order.{word}
use Rattle.cramfs_format.specs.Inode.{HasBody, block_count, block_start, offset_of, pointer_place}
use Rattle.cramfs_format.specs.Inode.{has_data as has_blocks, list_start, list_end}
use Rattle.cramfs_format.specs.Inode.{size_of as cramfs_size_of, type_of as cramfs_type_of}
use Rattle.cramfs_format.specs.Made.{IsGood, grow}
use Rattle.cramfs_format.specs.Refers.{root_place}
use Rattle.cramfs_format.specs.Superblock.{accessible as cramfs_accessible, accessible_size}
use Rattle.cramfs_format.specs.Tree.{below_root}
use Rattle.cramfs_format.proofs.Bridge.{below_of, root_body}
use Rattle.cramfs_format.proofs.Trees.{everywhere}
use Rattle.image_info.specs.Gaps.{most_records, romfs_forest, cramfs_forest}
use Rattle.image_info.specs.Held.{HoldsRomfs, HoldsCramfs}
use Rattle.image_info.proofs.Forests.{romfs_is, cramfs_is}
use Rattle.image_info.proofs.Given.{cramfs_size}
use Rattle.image_extents.specs.declared.extent.Record.{Record}
use Rattle.image_extents.specs.declared.extent.Extent.{Extent}
use Rattle.image_extents.specs.declared.extent.Kind.{Kind}
use Rattle.image_extents.specs.declared.extent.Kind.TheVariants.{Super, Header, List as ListOf, Table, Data}
use Rattle.image_extents.specs.Listed.{listed, all_listed, romfs_entry, romfs_listed, cramfs_entry, cramfs_listed}
use Rattle.image_extents.specs.Found.{found, romfs_found, found_from, romfs_all_found, is_data, goes_on}
use Rattle.image_extents.specs.Found.{longer, with_block}
use Rattle.image_extents.specs.Found.{with_blocks, with_list, with_contents, with_record, with_records}
use Rattle.image_extents.specs.Found.{cramfs_all_found, table_in}
use Rattle.image_extents.specs.Tables.{is_first}
use Rattle.image_extents.specs.Sorted.{AreRomfs, AreCramfs}
use Rattle.image_extents.proofs.CramfsWalk.{whole}
use Rattle.image_extents.proofs.Shares.{Inside}

-- ---- records

-- what holds of the offset of each row holds of the offset of each record
module _ (P : ℕ → Type 0) where
  abbrev Holds : Record → Type 0
  Holds x = P x.offset

  abbrev HoldsOf : Row → Type 0
  HoldsOf y = P y.offset

  module _ (entry : ℕ → ℕ → Record) (is : (p d : ℕ) → (entry p d).offset ≡ p) where
    pub of_forest : (n d : ℕ) (f : Forest) → Everywhere P f → Every Holds (listed entry n d f)
    of_forest n d none h = tt
    of_forest n d (at p own after) h = (
      subst P (sym (is p d)) h.0,
      every_join Holds (listed entry (suc n) n own) (listed entry (suc n + count own) d after)
          (of_forest (suc n) n own h.1) (of_forest (suc n + count own) d after h.2),
    )

    pub of_rows : (g : References) (x : Reference) (directory parent deep : ℕ) (f : Forest)
        → Every HoldsOf (rows g x directory parent deep f) → Everywhere P f
    of_rows g x directory parent deep none h = tt
    of_rows g x directory parent deep (at p own after) h =
        let own_rows = rows g (g.own x) p directory (deep + 1) own in
        let after_rows = rows g (g.after x) directory parent deep after in (
          h.0,
          of_rows g (g.own x) p directory (deep + 1) own (every_left HoldsOf own_rows after_rows h.1),
          of_rows g (g.after x) directory parent deep after (every_right HoldsOf own_rows after_rows h.1),
        )

    pub of_all : (g : References) (f : Forest) → Every HoldsOf (all_rows g f) → Every Holds (all_listed entry f)
    of_all g none h = tt
    of_all g (at r own after) h =
        let own_rows = rows g (g.own g.top) r r 1 own in
        let after_rows = rows g (g.after g.top) r r 1 after in (
          h.0,
          every_join Holds (listed entry 1 0 own) (listed entry (suc (count own)) 0 after)
              (of_forest 1 0 own (of_rows g (g.own g.top) r r 1 own (every_left HoldsOf own_rows after_rows h.1)))
              (of_forest (suc (count own)) 0 after
              (of_rows g (g.after g.top) r r 1 after (every_right HoldsOf own_rows after_rows h.1))),
        )

-- ---- romfs

pub above_root : (b : List ℕ) (r : ℕ) → r ≡ root_of b → r ≢ 0
unfolding root_of
above_root b r e z = absurd (omega (arith, e, z))

pub romfs_sound : (all : List ℕ) (r : ℕ) → HoldsRomfs all r
    → Every (λ (x : Record). IsSound (accessible all) r x.offset) (romfs_listed (accessible all) r)
unfolding romfs_listed
romfs_sound all r h =
    let b : List ℕ = accessible all in
    let g = references b r in
    let rs = all_rows g h.forest in
    let Leads : Row → Type 0 = λ y. reference_offset b r y.reference ≡ y.offset in
    let Sound : Row → Type 0 = λ y. IsSound b r (reference_offset b r y.reference) in
    let at_offset : Every (λ (y : Row). IsSound b r y.offset) rs =
    every_weaker (λ y. Leads y × Sound y) (λ (y : Row). IsSound b r y.offset) (λ y k. subst (IsSound b r) k.0 k.1) rs
    (every_both Leads Sound rs (all_targets b r h.forest h.whole.forest.stands)
    (recursion_from_All Sound rs h.whole.forest.sound)) in
    let same : romfs_forest b r ≡ h.forest =
    romfs_is b r h.most h.deepest h.forest (above_root b r h.superblock.root) h.whole h.few in
    subst (λ (f : Forest). Every (λ (x : Record). IsSound b r x.offset) (all_listed (romfs_entry b) f)) (sym same)
    (of_all (IsSound b r) (romfs_entry b) (λ p d. refl) g h.forest at_offset)

found_inside : (m : ℕ) (kind : Kind) (start len offset i : ℕ) → (0 < len → start + len ≤ m)
    → Every (Inside m) (found kind start len offset i)
found_inside m kind start zero offset i h = tt
found_inside m kind start (suc n) offset i h = ((omega arith, h (omega arith)), tt)

romfs_inside : (b : List ℕ) (r p i : ℕ) → IsSound b r p → Every (Inside (length b)) (romfs_found b p i)
romfs_inside b r p i s =
    let within = s.within in
    every_join (Inside (length b)) (found Header p (end_of b p - p) 0 i)
    (if has_data (type_of b p) then found Data (end_of b p) (size_of b p) 0 i else [])
    (found_inside (length b) Header p (end_of b p - p) 0 i (λ l. omega (arith, within, l)))
    (elim (has_data (type_of b p)) as (λ v. has_data (type_of b p) ≡ v
    → Every (Inside (length b)) (if v then found Data (end_of b p) (size_of b p) 0 i else [])) [
      | true ↦ λ e. found_inside (length b) Data (end_of b p) (size_of b p) 0 i (λ l. s.data_within e)
      | false ↦ λ e. tt
    ] refl)

from_inside : (b : List ℕ) (r n : ℕ) (rs : List Record) → Every (λ (x : Record). IsSound b r x.offset) rs
    → Every (Inside (length b)) (found_from (romfs_found b) n rs)
from_inside b r n [] h = tt
from_inside b r n (x ∷ xs) h =
    every_join (Inside (length b)) (romfs_found b x.offset n) (found_from (romfs_found b) (suc n) xs)
    (romfs_inside b r x.offset n h.0) (from_inside b r (suc n) xs h.1)

romfs_all_inside : (all : List ℕ) (r : ℕ) → HoldsRomfs all r
    → Every (Inside (length (accessible all))) (romfs_all_found (accessible all) r)
unfolding romfs_all_found
romfs_all_inside all r h =
    let b : List ℕ = accessible all in
    let fits = h.superblock.fits in
    every_join (Inside (length b)) (found Super 0 r 0 0) (found_from (romfs_found b) 0 (romfs_listed b r))
    (found_inside (length b) Super 0 r 0 0 (λ l. omega (arith, fits))) (from_inside b r 0 (romfs_listed b r)
    (romfs_sound all r h))

pub moved : (m : ℕ) (xs ys : List Extent) → IsPermutation xs ys → Every (Inside m) xs → Every (Inside m) ys
moved m xs ys p h =
    recursion_from_All (Inside m) ys (All-permutation (Inside m) xs ys p (All-from_recursion (Inside m) xs h))

pub romfs_all_in : (all : List ℕ) (r : ℕ) (e : Extents) → HoldsRomfs all r → AreRomfs (accessible all) r e
    → Every (Inside (length e.bytes.now)) e.extents.items
romfs_all_in all r e h a =
    subst (λ (b : List ℕ). Every (Inside (length b)) e.extents.items) (sym a.bytes)
    (moved (length (accessible all)) (romfs_all_found (accessible all) r) e.extents.items a.extents.same
    (romfs_all_inside all r h))

-- ---- cramfs

if_true : (c d : Bool) → (if c then d else false) ≡ true → (c ≡ true) × (d ≡ true)
if_true true d h = (refl, h)
if_true false d h = absurd (true≢false (sym h))

adjoins : (x y : Extent) → goes_on x y ≡ true → x.start + x.len ≡ y.start
adjoins x y h = eqb-true (x.start + x.len) y.start
    (if_true (x.start + x.len == y.start) _ (if_true (x.owner == y.owner) _ (if_true (is_data x.kind) _ h).1).1).0

module _ (m : ℕ) where
  joined_inside : (j : Bool) (x y : Extent) → (if j then goes_on x y else false) ≡ true → Inside m x → Inside m y
      → Inside m (longer x y)
  joined_inside j x y e h k =
      let a = adjoins x y (if_true j (goes_on x y) e).1 in
      let some = h.0 in
      let last = k.1 in
      (omega (arith, some), omega (arith, a, last))

  block_inside : (j : Bool) (xs : List Extent) (y : Extent) → Every (Inside m) xs → Inside m y
      → Every (Inside m) (with_block j xs y)
  block_inside j [] y h k = (k, tt)
  block_inside j (x ∷ []) y h k = elim (if j then goes_on x y else false) as
      (λ v. (if j then goes_on x y else false) ≡ v
      → Every (Inside m) (if v then longer x y ∷ [] else x ∷ y ∷ [])) [
        | true ↦ λ e. (joined_inside j x y e h.0 k, tt)
        | false ↦ λ e. (h.0, (k, tt))
      ] refl
  block_inside j (x ∷ z ∷ zs) y h k = (h.0, block_inside j (z ∷ zs) y h.1 k)

  -- a block that has bytes ends among the first m
  abbrev BlockIn : Order → List ℕ → ℕ → ℕ → Type 0
  BlockIn o b q len = 0 < len → block_start (word o b q) + len ≤ m

  blocks_inside : (j : Bool) (o : Order) (b : List ℕ) (i : ℕ) (xs : List Extent) (k q size offset : ℕ)
      → 4096 * k < size + 4096 → ((t : ℕ) → t < k → BlockIn o b (q + 4 * t) (min 4096 (size - 4096 * t)))
      → Every (Inside m) xs → Every (Inside m) (with_blocks j o b i xs k q size offset)
  blocks_inside j o b i xs zero q size offset few each h = h
  blocks_inside j o b i xs (suc k) q size offset few each h =
      let y : Extent =
      record { kind = Data; start = block_start (word o b q); len = min 4096 size; offset = offset; owner = i } in
      let some : 0 < min 4096 size = grind (arith, few) in
      let first : BlockIn o b q (min 4096 size) =
      subst (λ (v : ℕ). BlockIn o b v (min 4096 size)) (omega arith)
      (subst (λ (v : ℕ). BlockIn o b (q + 4 * 0) (min 4096 v)) (omega arith) (each 0 (omega arith))) in
      blocks_inside j o b i (with_block j xs y) k (q + 4) (size - 4096) (offset + 4096) (omega (arith, few))
      (λ t l.
      let u : q + 4 * suc t ≡ q + 4 + 4 * t = omega arith in
      let w : size - 4096 * suc t ≡ size - 4096 - 4096 * t = omega arith in
      subst (λ (v : ℕ). BlockIn o b v (min 4096 (size - 4096 - 4096 * t))) u
      (subst (λ (v : ℕ). BlockIn o b (q + 4 * suc t) (min 4096 v)) w (each (suc t) (omega (arith, l)))))
      (block_inside j xs y h (some, first some))

few_blocks : (size : ℕ) → 4096 * block_count size < size + 4096
few_blocks size = omega arith

module _ (j : Bool) (o : Order) (b : List ℕ) where
  list_inside : (p i : ℕ) (xs : List Extent) → HasBody o b p → Every (Inside (length b)) xs
      → Every (Inside (length b)) (with_list o b p i xs)
  list_inside p i xs s h = elim (cramfs_type_of o b p == 4) as (λ v. (cramfs_type_of o b p == 4) ≡ v
      → Every (Inside (length b)) (if v then xs ++ found ListOf (offset_of o b p) (cramfs_size_of o b p) 0 i else xs)) [
        | true ↦ λ e. every_join (Inside (length b)) xs (found ListOf (offset_of o b p) (cramfs_size_of o b p) 0 i) h
            (found_inside (length b) ListOf (offset_of o b p) (cramfs_size_of o b p) 0 i
            (λ l. (s.list (eqb-true (cramfs_type_of o b p) 4 e) l).1))
        | false ↦ λ e. h
      ] refl

  contents_inside : (p i : ℕ) (xs : List Extent) → HasBody o b p → Every (Inside (length b)) xs
      → Every (Inside (length b)) (with_contents j o b p i xs)
  unfolding pointer_place
  contents_inside p i xs s h =
      let t = offset_of o b p in
      let size = cramfs_size_of o b p in
      let n = block_count size in
      let zs : List Extent = xs ++ found Table t (4 * n) 0 i in
      elim (has_blocks (cramfs_type_of o b p)) as (λ v. has_blocks (cramfs_type_of o b p) ≡ v
      → Every (Inside (length b)) (if v then with_blocks j o b i zs n t size 0 else xs)) [
        | true ↦ λ e. blocks_inside (length b) j o b i zs n t size 0 (few_blocks size)
            (λ k l some. (s.blocks e k l some).1)
            (every_join (Inside (length b)) xs (found Table t (4 * n) 0 i) h
            (found_inside (length b) Table t (4 * n) 0 i (λ l. (s.table e l).1)))
        | false ↦ λ e. h
      ] refl

  record_inside : (all : List Record) (xs : List Extent) (n : ℕ) (x : Record) → HasBody o b x.offset
      → Every (Inside (length b)) xs → Every (Inside (length b)) (with_record j o b all xs n x)
  record_inside all xs n x s h = elim (is_first (table_in o b) all n x) as (λ v. Every (Inside (length b))
      (if v then with_contents j o b x.offset n (with_list o b x.offset n xs) else xs)) [
        | true ↦ contents_inside x.offset n (with_list o b x.offset n xs) s (list_inside x.offset n xs s h)
        | false ↦ h
      ]

  records_inside : (all : List Record) (xs : List Extent) (n : ℕ) (rs : List Record)
      → Every (λ (x : Record). HasBody o b x.offset) rs
      → Every (Inside (length b)) xs → Every (Inside (length b)) (with_records j o b all xs n rs)
  records_inside all xs n [] s h = h
  records_inside all xs n (x ∷ rs) s h =
      records_inside all (with_record j o b all xs n x) (suc n) rs s.1 (record_inside all xs n x s.0 h)

pub cramfs_bodies : (o : Order) (all : List ℕ) → HoldsCramfs o all
    → Every (λ (x : Record). HasBody o (cramfs_accessible o all) x.offset) (cramfs_listed o (cramfs_accessible o all))
unfolding cramfs_forest
cramfs_bodies o all h =
    let b : List ℕ = cramfs_accessible o all in
    let below = below_of o b h.most h.forest h.whole.forest in
    let same : cramfs_forest o b ≡ h.forest = cramfs_is o b h.most h.deepest h.forest h.whole h.few in
    let list : Forest = grow most_records o b (list_end o b root_place) (list_start o b root_place) in
    let good : (p : ℕ) → stands_in list p ≡ true → IsGood o b p =
    subst (λ (f : Forest). (p : ℕ) → stands_in (below_root f) p ≡ true → IsGood o b p) (sym same) below.good in
    let bodies : Everywhere (HasBody o b) list = everywhere (HasBody o b) list (λ p e. (good p e).body) in
    subst (Every (λ (x : Record). HasBody o b x.offset)) (sym (whole o b)) (
      root_body h.superblock.root.directory below.root,
      of_forest (HasBody o b) (cramfs_entry o b) (λ p d. refl) 1 0 list bodies,
    )

pub cramfs_all_in : (o : Order) (all : List ℕ) (e : Extents) → HoldsCramfs o all
    → AreCramfs o (cramfs_accessible o all) e
    → Every (Inside (length e.bytes.now)) e.extents.items
unfolding cramfs_all_found
cramfs_all_in o all e h a =
    let b : List ℕ = cramfs_accessible o all in
    let w = cramfs_size o all h in
    let size = w.0 in
    let long = w.1 in
    let l : length b ≡ min (accessible_size o all) (length all) = length-take (accessible_size o all) all in
    let first = found_inside (length b) Super 0 76 0 0 (λ k. omega (arith, l, size, long)) in
    let found_in =
    records_inside a.joined o b (cramfs_listed o b) (found Super 0 76 0 0) 0 (cramfs_listed o b) (cramfs_bodies o all h)
    first in
    subst (λ (v : List ℕ). Every (Inside (length v)) e.extents.items) (sym a.blocks.bytes)
    (moved (length b) (cramfs_all_found a.joined o b) e.extents.items a.blocks.extents.same found_in)
