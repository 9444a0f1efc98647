-- Data of a cramfs image are bytes of the file whose path their record has.
use Rattle.std.proofs.Common.{◌≡◌, ◌≤◌, ◌⊎◌, ℕ, ◌+◌, ◌==◌, Bool, true, false, List, [], ◌∷◌}
use Rattle.std.proofs.Common.{length, take, drop, length-take, min, refl, sym, ap, subst, ◌∙◌, arith, inl}
use Rattle.std.proofs.Common.{inr, append-nil}
use Rattle.std.proofs.Common.{if◌then◌else◌, get_or}
use Rattle.std.proofs.lemmas.Bool.{true≢false}
use Rattle.std.proofs.lemmas.Bool.Decides.{eqb_tells}
use Rattle.std.proofs.lemmas.List.{take-take}
use Rattle.std.proofs.lemmas.List.Elements.{All-from_recursion}
use Rattle.std.specs.List.{All, AllByRecursion as Every}
use Rattle.std.specs.List.Sorted.{IsPermutation}
use Rattle.std.specs.Prelude.{slice_get, Option, None, Some}
use Rattle.record_forest.proofs.Lists.{every_weaker}
use Rattle.record_forest.specs.Forest.{Forest, none, at}
use Rattle.rom_tree.specs.Image.{IsRun}
use Rattle.rom_tree.proofs.ByKind.{by_kind_directory, body_places_is}
use Rattle.rom_tree.specs.Names.{Name, named, names, node_names, entries_names}
use Rattle.rom_tree.specs.Tree.{Node, node, Body, directory, regular, symlink, block, character, socket}
use Rattle.rom_tree.specs.Tree.{fifo, Entries}
use Rattle.rom_tree.specs.Tree.{depth, entries_depth, places_of}
use Rattle.cramfs_format.specs.declared.order.Order.{Order}
use Rattle.cramfs_format.specs.Inode.{block_count, has_data, list_start, list_end, name_of, name_room, offset_of}
use Rattle.cramfs_format.specs.Inode.{size_of, type_of}
use Rattle.cramfs_format.specs.Inode.{without_zeros, before_rest}
use Rattle.cramfs_format.specs.Made.{StandsAt, grow}
use Rattle.cramfs_format.specs.Refers.{root_place}
use Rattle.cramfs_format.specs.Superblock.{accessible}
use Rattle.cramfs_format.specs.Tree.{attributes_at, below_root, blocks_from, entries_at, kind_numbers, node_of}
use Rattle.cramfs_format.specs.Tree.{places_at, tree_of}
use Rattle.cramfs_format.proofs.Bridge.{below_of}
use Rattle.cramfs_format.proofs.Contents.{pick_data}
use Rattle.cramfs_format.proofs.Depths.{node_depth}
use Rattle.cramfs_format.proofs.Lists.{other_list}
use Rattle.image_info.specs.Gaps.{most_records, cramfs_forest}
use Rattle.image_info.specs.Held.{HoldsCramfs}
use Rattle.image_info.proofs.Forests.{cramfs_is}
use Rattle.image_extents.specs.declared.extent.Extent.{Extent}
use Rattle.image_extents.specs.declared.extent.Record.{Record}
use Rattle.image_extents.specs.declared.extent.Extents.{Extents}
use Rattle.image_extents.specs.declared.extent.Kind.TheVariants.{Super}
use Rattle.image_extents.specs.Found.{found, cramfs_all_found, cramfs_nexts, table_in, with_records}
use Rattle.image_extents.specs.Tables.{led, nexts, table_by}
use Rattle.image_extents.specs.Listed.{listed, cramfs_entry, cramfs_listed, root_entry}
use Rattle.image_extents.specs.Lines.{owned, owners}
use Rattle.image_extents.specs.Owned.{AreOfFiles, HasBytes, run_of}
use Rattle.image_extents.specs.Sorted.{AreCramfs}
use Rattle.std.proofs.lemmas.List.Sorted.{All-permutation}
use Rattle.image_extents.proofs.Bytes.{has_bytes}
use Rattle.image_extents.proofs.CramfsWalk.{whole}
use Rattle.image_extents.proofs.DataRuns.{Of, other_found, places_by, places_in, records_of}
use Rattle.image_extents.proofs.Named.{Format, AreOpen, Each, IsOpen, are_named}
use Rattle.image_extents.proofs.Sharing.{led_same, none_some, some_is}
use Rattle.image_extents.proofs.Texts.{path_root}

-- ---- names

rest_cut : (x : ℕ) (ws xs : List ℕ) → take (length ws) xs ≡ ws
    → take (length (before_rest x ws)) (x ∷ xs) ≡ before_rest x ws
rest_cut x [] xs h = elim (x == 0) as
    (λ v. take (length (if v then [] else x ∷ [])) (x ∷ xs) ≡ (if v then [] else x ∷ []))
    [ true ↦ refl | false ↦ ap (λ (v : List ℕ). x ∷ v) h ]
rest_cut x (w ∷ ws) xs h = ap (λ (v : List ℕ). x ∷ v) h

zeros_cut : (xs : List ℕ) → take (length (without_zeros xs)) xs ≡ without_zeros xs
zeros_cut [] = refl
zeros_cut (x ∷ xs) = rest_cut x (without_zeros xs) xs (zeros_cut xs)

front_of : (n m : ℕ) (xs ws : List ℕ) → take n (take m xs) ≡ ws → length ws ≡ n → take n xs ≡ ws
front_of n m xs ws h l =
    let a = length-take n (take m xs) in
    let b = length-take m xs in
    let c = ap length h in
    let z : n ≤ m = grind (arith, a, b, c, l) in
    sym (take-take n m xs z) ∙ h

pub name_cut : (o : Order) (b : List ℕ) (p : ℕ) → take (length (name_of o b p)) (drop (p + 12) b) ≡ name_of o b p
unfolding name_of
name_cut o b p = front_of (length (without_zeros (take (name_room o b p) (drop (p + 12) b)))) (name_room o b p)
    (drop (p + 12) b) (without_zeros (take (name_room o b p) (drop (p + 12) b)))
    (zeros_cut (take (name_room o b p) (drop (p + 12) b))) refl

module _ (o : Order) (b : List ℕ) where
  abbrev pub format : Format
  format = record {
    bytes = b;
    start = λ p. p + 12;
    len = λ p. length (name_of o b p);
    name = name_of o b;
    skip = λ p. false;
    make = node_of o b;
    entries = entries_at o b;
    cut = name_cut o b;
    nothing = refl;
    skipped = λ p own after e. absurd (true≢false (sym e));
    shown = λ p own after e. refl;
  }

  directory_names : (path : List ℕ) (p : ℕ) (es : Entries) → type_of o b p ≡ 4
      → node_names path (node_of o b p es) ≡ entries_names path es
  unfolding node_of node_names
  directory_names path p es t =
      ap (λ (v : Body). node_names path (node (attributes_at o b p) v))
      (by_kind_directory kind_numbers (type_of o b p) (directory es) (regular (places_at o b p))
      (symlink (places_at o b p)) block character socket fifo t)

  places_are : (p : ℕ) (own : Forest) → has_data (type_of o b p) ≡ true
      → places_of (node_of o b p (entries_at o b own)) ≡ places_at o b p
  unfolding node_of
  places_are p own d = body_places_is kind_numbers (type_of o b p) (places_at o b p) (entries_at o b own)
      ∙ (pick_data (type_of o b p) (places_at o b p) [] ∙ ap (λ (v : Bool). if v then places_at o b p else []) d)

  pub open_by : (rs : List Record) (e q : ℕ) (f : Forest) → StandsAt o b e q f → AreOpen format rs f
  open_by rs e q none s = tt
  open_by rs e q (at p own after) s = (
    is_open own s.2,
    open_by rs (list_end o b p) (list_start o b p) own s.2,
    open_by rs e _ after s.3,
  )
    where
      is_open : (own : Forest) → StandsAt o b (list_end o b p) (list_start o b p) own
          → (own ≡ none) ⊎ IsOpen format rs p own
      is_open none s = inl refl
      is_open (at u v w) s = elim (eqb_tells (type_of o b p) 4) [
        | inl h ↦ inr (record {
          shown = refl;
          below = λ path. directory_names path p (entries_at o b (at u v w)) h.1;
          deep = node_depth o b p (at u v w) s;
        })
        | inr h ↦ let z = other_list o b p h.1 in let l = s.0 in absurd (omega (arith, z, l))
      ]

  -- the root's names, from the root's list on
  pub root_names : (list : Forest) → type_of o b root_place ≡ 4
      → names (node_of o b root_place (entries_at o b list))
      ≡ named (47 ∷ []) [] (node_of o b root_place (entries_at o b list)) ∷ entries_names [] (entries_at o b list)
  unfolding names
  root_names list t = ap (λ (v : List Name). named (47 ∷ []) [] (node_of o b root_place (entries_at o b list)) ∷ v)
      (directory_names [] root_place (entries_at o b list) t)

-- all data of an image whose records are these
module _ (o : Order) (b : List ℕ) (list : Forest) (e : Extents) where
  abbrev records : List Record
  records = root_entry root_place ∷ listed (cramfs_entry o b) 1 0 list

  named_below : StandsAt o b (list_end o b root_place) (list_start o b root_place) list
      → entries_depth (entries_at o b list) ≤ 64
      → Each (format o b) records (entries_names [] (entries_at o b list)) 1 (listed (cramfs_entry o b) 1 0 list)
  named_below s deep = are_named (format o b) records 1 0 0 [] list (root_entry root_place ∷ []) []
      (ap (λ (v : List Record). root_entry root_place ∷ v) (sym (append-nil (listed (cramfs_entry o b) 1 0 list)))) refl
      (omega arith) (λ most l. path_root b records most 0 refl) (omega (arith, deep))
      (open_by o b records (list_end o b root_place) (list_start o b root_place) list s)

  all_shown : (xs : List Record) → Every (λ (x : Record). has_data (type_of o b x.offset) ≡ true → false ≡ false) xs
  all_shown [] = tt
  all_shown (x ∷ xs) = (λ e. refl, all_shown xs)

  no_data : type_of o b root_place ≡ 4 → has_data (type_of o b root_place) ≡ false
  no_data t = ap has_data t

  each_of : (joined : Bool) → cramfs_listed o b ≡ records → Every (Of records joined o b) (cramfs_all_found joined o b)
  unfolding cramfs_all_found
  each_of joined is = subst (λ (v : List Record). Every (Of records joined o b)
      (with_records joined o b v (found Super 0 76 0 0) 0 v)) (sym is)
      (records_of records joined o b records 0 [] records (found Super 0 76 0 0) refl refl
      (other_found records (λ p. has_data (type_of o b p)) (places_at o b) Super (λ d. absurd (cc)) 0 76 0 0))

  -- records with the same block pointers have the same places
  places_of_table : (x y : Option Record) → table_by (table_in o b) x ≡ table_by (table_in o b) y
      → places_by (λ p. has_data (type_of o b p)) (places_at o b) x
      ≡ places_by (λ p. has_data (type_of o b p)) (places_at o b) y
  unfolding places_at
  places_of_table None None h = refl
  places_of_table None (Some y) h =
      let t : ℕ × ℕ = (offset_of o b y.offset, size_of o b y.offset) in
      elim (has_data (type_of o b y.offset)) as
      (λ v. None ≡ (if v then Some t else None) → [] ≡ (if v then places_at o b y.offset else []))
      [ true ↦ λ e. absurd (none_some t e) | false ↦ λ e. refl ] h
  places_of_table (Some x) None h =
      let t : ℕ × ℕ = (offset_of o b x.offset, size_of o b x.offset) in
      elim (has_data (type_of o b x.offset)) as
      (λ v. (if v then Some t else None) ≡ None → (if v then places_at o b x.offset else []) ≡ [])
      [ true ↦ λ e. absurd (none_some t (sym e)) | false ↦ λ e. refl ] h
  places_of_table (Some x) (Some y) h = by (has_data (type_of o b x.offset)) (has_data (type_of o b y.offset)) h
    where
      same : (s t : ℕ × ℕ) → s ≡ t
          → blocks_from o b (block_count s.1) s.0 s.1 ≡ blocks_from o b (block_count t.1) t.0 t.1
      same s t e = ap (λ (v : ℕ × ℕ). blocks_from o b (block_count v.1) v.0 v.1) e

      s : ℕ × ℕ
      s = (offset_of o b x.offset, size_of o b x.offset)

      t : ℕ × ℕ
      t = (offset_of o b y.offset, size_of o b y.offset)

      by : (u v : Bool) → (if u then Some s else None) ≡ (if v then Some t else None)
          → (if u then places_at o b x.offset else []) ≡ (if v then places_at o b y.offset else [])
      by true true e = same s t (some_is s t e)
      by true false e = absurd (none_some s (sym e))
      by false true e = absurd (none_some t e)
      by false false e = refl

  same_places : (next : List (Option ℕ)) → next ≡ nexts (table_in o b) 0 records → (most j : ℕ)
      → Every (λ (i : ℕ). places_in records (λ p. has_data (type_of o b p)) (places_at o b) i
      ≡ places_in records (λ p. has_data (type_of o b p)) (places_at o b) j) (led next most (Some j))
  same_places next is most j =
      every_weaker
      (λ (i : ℕ). table_by (table_in o b) (slice_get records i) ≡ table_by (table_in o b) (slice_get records j))
      (λ (i : ℕ). places_in records (λ p. has_data (type_of o b p)) (places_at o b) i
      ≡ places_in records (λ p. has_data (type_of o b p)) (places_at o b) j)
      (λ i h. places_of_table (slice_get records i) (slice_get records j) h)
      (led next most (Some j)) (led_same (table_in o b) records next is most j)

  nexts_are : cramfs_listed o b ≡ records → cramfs_nexts o b ≡ nexts (table_in o b) 0 records
  unfolding cramfs_nexts
  nexts_are is = ap (nexts (table_in o b) 0) is

  of_files : (joined : Bool) → cramfs_listed o b ≡ records → e.bytes.now ≡ b → e.records.items ≡ cramfs_listed o b
      → e.next.items ≡ cramfs_nexts o b → IsPermutation (cramfs_all_found joined o b) e.extents.items
      → type_of o b root_place ≡ 4 → StandsAt o b (list_end o b root_place) (list_start o b root_place) list
      → entries_depth (entries_at o b list) ≤ 64
      → AreOfFiles (node_of o b root_place (entries_at o b list)) e
  of_files joined is bytes items next moved t s deep =
      let tree : Node = node_of o b root_place (entries_at o b list) in
      let all : All (Of records joined o b) e.extents.items =
      All-permutation (Of records joined o b) (cramfs_all_found joined o b) e.extents.items moved
      (All-from_recursion (Of records joined o b) (cramfs_all_found joined o b) (each_of joined is)) in
      λ k d l kind.
      let x : Extent = get_or e.extents.items k d in
      let P : ℕ → List ℕ = places_in records (λ p. has_data (type_of o b p)) (places_at o b) in
      let Same : ℕ → Type 0 = λ i. P i ≡ P x.owner in
      let Held : ℕ → Type 0 = λ i. HasBytes tree e (owned x i) in
      All-from_recursion Held (owners e x) (every_weaker Same Held (λ i same.
      has_bytes (format o b) (root_entry root_place) (listed (cramfs_entry o b) 1 0 list)
      (λ p. has_data (type_of o b p)) (places_at o b) (places_are o b) (all_shown (listed (cramfs_entry o b) 1 0 list))
      (no_data t)
      (entries_names [] (entries_at o b list)) (named_below s deep) tree _ e (owned x i)
      (root_names o b list t) bytes (items ∙ is)
      (subst (λ (v : List ℕ). IsRun v x.offset (run_of x)) (sym same) (all k d l kind)))
      (owners e x) (same_places e.next.items (next ∙ nexts_are is) (length e.records.items) x.owner))

pub cramfs_bytes : (o : Order) (all : List ℕ) (e : Extents) (h : HoldsCramfs o all) → AreCramfs o (accessible o all) e
    → AreOfFiles (tree_of o (accessible o all) h.forest) e
unfolding tree_of cramfs_forest
cramfs_bytes o all e h a =
    let b : List ℕ = accessible o all in
    let list : Forest = grow most_records o b (list_end o b root_place) (list_start o b root_place) in
    let same : cramfs_forest o b ≡ h.forest = cramfs_is o b h.most h.deepest h.forest h.whole h.few in
    let below = below_of o b h.most h.forest h.whole.forest in
    let stands : StandsAt o b (list_end o b root_place) (list_start o b root_place) list =
    subst (λ (f : Forest). StandsAt o b (list_end o b root_place) (list_start o b root_place) (below_root f)) (sym same)
    below.stands in
    let shallow : depth (node_of o b root_place (entries_at o b list)) ≤ min h.deepest 64 =
    subst (λ (f : Forest). depth (tree_of o b f) ≤ min h.deepest 64) (sym same) h.whole.shallow in
    let same_depth = node_depth o b root_place list stands in
    let deep : entries_depth (entries_at o b list) ≤ 64 = grind (arith, shallow, same_depth) in
    subst (λ (f : Forest). AreOfFiles (tree_of o b f) e) same
    (of_files o b list e a.joined (whole o b) a.blocks.bytes a.blocks.records a.blocks.next a.blocks.extents.same
    h.superblock.root.directory stands deep)
