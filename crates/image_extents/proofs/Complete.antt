-- No byte of a cramfs file is left out of the collected extents.
use Rattle.std.proofs.Common.{◌≡◌, ◌≤◌, ◌<◌, ℕ, zero, suc, ◌+◌, Bool, true, false, List, [], ◌∷◌, ◌++◌}
use Rattle.std.proofs.Common.{length, min, refl, sym, ap, subst, ◌∙◌, arith, append-nil, if◌then◌else◌}
use Rattle.std.proofs.lemmas.Bool.{true≢false, eq-eqb}
use Rattle.std.proofs.lemmas.List.Elements.{All-from_recursion}
use Rattle.std.proofs.lemmas.List.Sorted.{Contains-permutation}
use Rattle.std.specs.List.{AllByRecursion as Every, Contains}
use Rattle.std.specs.Prelude.{slice_get, slice_index, Option, None, Some}
use Rattle.record_forest.proofs.Lists.{every_weaker}
use Rattle.record_forest.specs.Forest.{Forest}
use Rattle.rom_tree.specs.Names.{Name, named, names, node_names, entries_names}
use Rattle.rom_tree.specs.Tree.{node, Body, directory, regular, symlink, block, character, socket, fifo}
use Rattle.rom_tree.specs.Tree.{Entries, no_entries, depth, entries_depth, places_of}
use Rattle.rom_tree.proofs.ByKind.{body_places_is, by_kind_map}
use Rattle.cramfs_format.specs.declared.order.Order.{Order}
use Rattle.cramfs_format.specs.Inode.{block_count, has_data, list_start, list_end, offset_of, size_of, type_of}
use Rattle.cramfs_format.specs.Made.{StandsAt, grow}
use Rattle.cramfs_format.specs.Refers.{root_place}
use Rattle.cramfs_format.specs.Superblock.{accessible}
use Rattle.cramfs_format.specs.Tree.{attributes_at, below_root, blocks_from, entries_at, kind_numbers, node_of}
use Rattle.cramfs_format.specs.Tree.{places_at, tree_of}
use Rattle.cramfs_format.proofs.Bridge.{below_of}
use Rattle.cramfs_format.proofs.Contents.{length_places, pick_data}
use Rattle.cramfs_format.proofs.Depths.{node_depth}
use Rattle.image_info.specs.Gaps.{most_records, cramfs_forest}
use Rattle.image_info.specs.Held.{HoldsCramfs}
use Rattle.image_info.proofs.Forests.{cramfs_is}
use Rattle.image_extents.specs.declared.extent.Record.{Record}
use Rattle.image_extents.specs.declared.extent.Extents.{Extents}
use Rattle.image_extents.specs.Complete.{HasAllBytes, HasByte}
use Rattle.image_extents.specs.Found.{cramfs_all_found, table_in}
use Rattle.image_extents.specs.Listed.{listed, cramfs_entry, cramfs_listed, path_of, root_entry}
use Rattle.image_extents.specs.Owned.{HasOwners}
use Rattle.image_extents.specs.Sorted.{AreCramfs}
use Rattle.image_extents.specs.Tables.{first_with, is_at, first_as, is_first, is_table, table_by}
use Rattle.image_extents.proofs.CramfsBytes.{format, open_by, root_names}
use Rattle.image_extents.proofs.CramfsWalk.{whole}
use Rattle.image_extents.proofs.FirstOwners.{cramfs_owners}
use Rattle.image_extents.proofs.Kept.{Any, Has, any_among, cramfs_has}
use Rattle.image_extents.proofs.Named.{at_index}
use Rattle.image_extents.proofs.Recorded.{IsRecorded, Recorded, are_recorded}
use Rattle.image_extents.proofs.Sharing.{is_itself, none_some, some_is, table_is}
use Rattle.image_extents.proofs.Texts.{no_record, path_below, path_root}

-- ---- the first record with some block pointers

module _ (table : Record → Option (ℕ × ℕ)) (t : ℕ × ℕ) where
  pub record IsFound (n : ℕ) (ys : List Record) : Type 0 where
    pub before : List Record
    pub first : Record
    pub after : List Record
    pub is : ys ≡ before ++ first ∷ after
    pub has : table first ≡ Some t
    pub found : first_with table t n ys ≡ Some (n + length before)

  first_by : (v : Bool) (n : ℕ) (x : Record) (xs : List Record) → is_table t (table x) ≡ v
      → (is_table t (table x) ≡ false → IsFound (suc n) xs) → IsFound n (x ∷ xs)
  first_by true n x xs e later = record {
    before = [];
    first = x;
    after = xs;
    is = refl;
    has = table_is t (table x) e;
    found = rw e (ap Some (omega arith));
  }
  first_by false n x xs e later =
      let i = later e in
      record {
        before = x ∷ i.before;
        first = i.first;
        after = i.after;
        is = ap (λ (v : List Record). x ∷ v) i.is;
        has = i.has;
        found = rw e (i.found ∙ ap Some (omega arith));
      }

  first_of : (n i : ℕ) (ys : List Record) → table_by table (slice_get ys i) ≡ Some t → IsFound n ys
  first_of n i [] h = absurd (none_some t (sym (ap (table_by table) (no_record [] i (omega arith))) ∙ h))
  first_of n zero (x ∷ xs) h = first_by (is_table t (table x)) n x xs refl
      (λ e. absurd (true≢false (sym (is_itself table t) ∙ (ap (is_table t) (sym h) ∙ e))))
  first_of n (suc i) (x ∷ xs) h =
      first_by (is_table t (table x)) n x xs refl (λ e. first_of (suc n) i xs h)

  first_is : (ys : List Record) (i : IsFound 0 ys) → is_first table ys (length i.before) i.first ≡ true
  first_is ys i = ap (λ (v : Option (ℕ × ℕ)). is_at (length i.before) (first_as table v 0 ys)) i.has
      ∙ (ap (is_at (length i.before)) i.found
      ∙ eq-eqb (0 + length i.before) (length i.before) (omega arith))

-- ---- nodes

kept_in : {X : Type 0} (P : X → Type 0) (xs : List X) → Every P xs → (x : X) → Contains xs x → P x
kept_in P xs h x c = subst P c.2 (All-from_recursion P xs h c.0 x c.1)

in_front : {X : Type 0} (P : X → Type 0) (x : X) (xs : List X) → P x → Every P xs → Every P (x ∷ xs)
in_front P x xs h k = (h, k)

module _ (o : Order) (b : List ℕ) where
  node_places : (p : ℕ) (es : Entries)
      → places_of (node_of o b p es) ≡ (if has_data (type_of o b p) then places_at o b p else [])
  unfolding node_of
  node_places p es = body_places_is kind_numbers (type_of o b p) (places_at o b p) es
      ∙ pick_data (type_of o b p) (places_at o b p) []

  leaf : (path : List ℕ) (p : ℕ) → node_names path (node_of o b p no_entries) ≡ []
  unfolding node_of node_names
  leaf path p =
      by_kind_map (λ (v : Body). node_names path (node (attributes_at o b p) v)) kind_numbers (type_of o b p)
      (directory no_entries) (regular (places_at o b p)) (symlink (places_at o b p)) block character socket fifo
      ∙ sym (by_kind_map (λ (v : ℕ). []) kind_numbers (type_of o b p) 0 0 0 0 0 0 0)

  -- a record whose node has a byte is one with data, and has the places of this node
  record IsData (p k : ℕ) (ps : List ℕ) : Type 0 where
    kind : has_data (type_of o b p) ≡ true
    here : k < size_of o b p
    is : ps ≡ places_at o b p

  data_by : (v : Bool) (p k : ℕ) (ps : List ℕ) → has_data (type_of o b p) ≡ v
      → ps ≡ (if v then places_at o b p else []) → k < length ps → IsData p k ps
  data_by true p k ps e is l =
      let n = length_places o b p in
      let m = ap length is in
      record { kind = e; here = omega (arith, l, n, m); is = is }
  data_by false p k ps e is l = let m = ap length is in absurd (omega (arith, l, m))

  same_places : (x y : Record) (t : ℕ × ℕ) → table_in o b x ≡ Some t → has_data (type_of o b y.offset) ≡ true
      → Some (offset_of o b y.offset, size_of o b y.offset) ≡ Some t → (has_data (type_of o b x.offset) ≡ true)
      × (places_at o b x.offset ≡ places_at o b y.offset) × (size_of o b x.offset ≡ size_of o b y.offset)
  unfolding places_at
  same_places x y t hx d hy = by (has_data (type_of o b x.offset)) refl hx
    where
      u : ℕ × ℕ
      u = (offset_of o b x.offset, size_of o b x.offset)

      w : ℕ × ℕ
      w = (offset_of o b y.offset, size_of o b y.offset)

      by : (v : Bool) → has_data (type_of o b x.offset) ≡ v → (if v then Some u else None) ≡ Some t
          → (has_data (type_of o b x.offset) ≡ true)
          × (places_at o b x.offset ≡ places_at o b y.offset) × (size_of o b x.offset ≡ size_of o b y.offset)
      by true e h =
          let s : u ≡ w = some_is u w (h ∙ sym hy) in
          (e, ap (λ (v : ℕ × ℕ). blocks_from o b (block_count v.1) v.0 v.1) s, ap (λ (v : ℕ × ℕ). v.1) s)
      by false e h = absurd (none_some t h)

  data_table : (x : Record) → has_data (type_of o b x.offset) ≡ true
      → table_in o b x ≡ Some (offset_of o b x.offset, size_of o b x.offset)
  data_table x d = rw d refl

-- ---- a whole image

module _ (o : Order) (b : List ℕ) (list : Forest) (e : Extents) where
  abbrev records : List Record
  records = root_entry root_place ∷ listed (cramfs_entry o b) 1 0 list

  below_recorded : StandsAt o b (list_end o b root_place) (list_start o b root_place) list
      → entries_depth (entries_at o b list) ≤ 64
      → Recorded (format o b) records (leaf o b) (entries_names [] (entries_at o b list))
  below_recorded s deep = are_recorded (format o b) records (leaf o b) 1 0 0 [] list (root_entry root_place ∷ []) []
      (ap (λ (v : List Record). root_entry root_place ∷ v) (sym (append-nil (listed (cramfs_entry o b) 1 0 list)))) refl
      (omega arith) (λ most l. path_root b records most 0 refl) (omega (arith, deep))
      (open_by o b records (list_end o b root_place) (list_start o b root_place) list s)

  -- the name has each of its bytes
  abbrev IsWhole : Name → Type 0
  IsWhole n = (k : ℕ) → k < length (places_of n.node) → HasByte e n.path k (slice_index (places_of n.node) k)

  whole_name : AreCramfs o b e → cramfs_listed o b ≡ records → (n : Name)
      → IsRecorded (format o b) records (leaf o b) n → IsWhole n
  whole_name a is n r k l =
      let y : Record = r.item in
      let whose : places_of n.node ≡ (if has_data (type_of o b y.offset) then places_at o b y.offset else []) =
      ap places_of r.is ∙ node_places o b y.offset (entries_at o b r.own) in
      let d = data_by o b (has_data (type_of o b y.offset)) y.offset k (places_of n.node) refl whose l in
      let t : ℕ × ℕ = (offset_of o b y.offset, size_of o b y.offset) in
      let table : table_in o b y ≡ Some t = data_table o b y d.kind in
      let at_y : table_by (table_in o b) (slice_get records r.index) ≡ Some t =
      ap (table_by (table_in o b)) r.there ∙ table in
      let f = first_of (table_in o b) t 0 r.index records at_y in
      let x : Record = f.first in
      let m : ℕ = length f.before in
      let same = same_places o b x y t f.has d.kind refl in
      let first : is_first (table_in o b) (cramfs_listed o b) m x ≡ true =
      ap (λ (v : List Record). is_first (table_in o b) v m x) is ∙ first_is (table_in o b) t records f in
      let here = d.here in
      let size = same.2 in
      let p : ℕ = slice_index (places_of n.node) k in
      let there : slice_index (places_at o b x.offset) k ≡ p =
      ap (λ (v : List ℕ). slice_index v k) (same.1 ∙ sym d.is) in
      let found : Any (Has m k p) (cramfs_all_found a.joined o b) =
      subst (λ (v : ℕ). Any (Has m k v) (cramfs_all_found a.joined o b)) there
      (cramfs_has a.joined o b k f.before x f.after (is ∙ f.is) first same.0 (omega (arith, here, size))) in
      let i = any_among (Has m k p) (cramfs_all_found a.joined o b) found in
      let c : Contains e.extents.items i.extent =
      Contains-permutation (cramfs_all_found a.joined o b) e.extents.items i.extent a.blocks.extents.same i.among in
      let owners : HasOwners (table_in o b) e i.extent =
      subst (HasOwners (table_in o b) e) c.2 (cramfs_owners o b e a c.0 i.extent c.1) in
      let items : e.records.items ≡ records = a.blocks.records ∙ is in
      let by_m : table_by (table_in o b) (slice_get e.records.items m) ≡ Some t =
      ap (λ (v : List Record). table_by (table_in o b) (slice_get v m)) (items ∙ f.is)
      ∙ (ap (table_by (table_in o b)) (at_index f.before x f.after) ∙ f.has) in
      let by_owner : table_by (table_in o b) (slice_get e.records.items i.extent.owner) ≡ Some t =
      ap (λ (v : ℕ). table_by (table_in o b) (slice_get e.records.items v)) i.holds.owner ∙ by_m in
      let by_number : table_by (table_in o b) (slice_get e.records.items r.index) ≡ Some t =
      ap (λ (v : List Record). table_by (table_in o b) (slice_get v r.index)) items ∙ at_y in
      record {
        extent = i.extent;
        among = c;
        kind = i.holds.kind;
        covers = (i.holds.low, i.holds.high);
        byte = i.holds.byte;
        number = r.index;
        owner = (owners t by_owner r.index).1 by_number;
        named = ap (λ (v : List ℕ). path_of v e.records.items r.index) a.blocks.bytes
            ∙ (ap (λ (v : List Record). path_of b v r.index) items
            ∙ (path_below b records r.index r.live ∙ r.place));
      }

  root_whole : type_of o b root_place ≡ 4 → IsWhole (named (47 ∷ []) [] (node_of o b root_place (entries_at o b list)))
  root_whole t k l =
      let nothing : places_of (node_of o b root_place (entries_at o b list)) ≡ [] =
      node_places o b root_place (entries_at o b list)
      ∙ ap (λ (v : ℕ). if has_data v then places_at o b root_place else []) t in
      let m = ap length nothing in
      absurd (omega (arith, l, m))

  all_whole : AreCramfs o b e → cramfs_listed o b ≡ records → type_of o b root_place ≡ 4
      → StandsAt o b (list_end o b root_place) (list_start o b root_place) list
      → entries_depth (entries_at o b list) ≤ 64 → HasAllBytes (node_of o b root_place (entries_at o b list)) e
  all_whole a is t s deep n c =
      let ns : List Name = entries_names [] (entries_at o b list) in
      let all : Every IsWhole ns = every_weaker (IsRecorded (format o b) records (leaf o b)) IsWhole
      (whole_name a is) ns (below_recorded s deep) in
      kept_in IsWhole (names (node_of o b root_place (entries_at o b list)))
      (subst (Every IsWhole) (sym (root_names o b list t))
      (in_front IsWhole (named (47 ∷ []) [] (node_of o b root_place (entries_at o b list))) ns (root_whole t) all)) n c

pub cramfs_complete : (o : Order) (all : List ℕ) (e : Extents) (h : HoldsCramfs o all)
    → AreCramfs o (accessible o all) e → HasAllBytes (tree_of o (accessible o all) h.forest) e
unfolding tree_of cramfs_forest
cramfs_complete o all e h a =
    let b : List ℕ = accessible o all in
    let list : Forest = grow most_records o b (list_end o b root_place) (list_start o b root_place) in
    let same : cramfs_forest o b ≡ h.forest = cramfs_is o b h.most h.deepest h.forest h.whole h.few in
    let below = below_of o b h.most h.forest h.whole.forest in
    let stands : StandsAt o b (list_end o b root_place) (list_start o b root_place) list =
    subst (λ (f : Forest). StandsAt o b (list_end o b root_place) (list_start o b root_place) (below_root f)) (sym same)
    below.stands in
    let shallow : depth (node_of o b root_place (entries_at o b list)) ≤ min h.deepest 64 =
    subst (λ (f : Forest). depth (tree_of o b f) ≤ min h.deepest 64) (sym same) h.whole.shallow in
    let same_depth = node_depth o b root_place list stands in
    let deep : entries_depth (entries_at o b list) ≤ 64 = grind (arith, shallow, same_depth) in
    subst (λ (f : Forest). HasAllBytes (tree_of o b f) e) same
    (all_whole o b list e a (whole o b) h.superblock.root.directory stands deep)
