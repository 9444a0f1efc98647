-- Data of a romfs image are bytes of the file whose path their record has.
use Rattle.std.proofs.Common.{◌≡◌, ◌≢◌, ◌≤◌, ◌⊎◌, ℕ, ◌+◌, ◌==◌, Bool, true, false, List, [], ◌∷◌, ◌++◌}
use Rattle.std.proofs.Common.{length, take, drop, min, refl, sym, ap, subst, ◌∙◌, arith, inl, inr, append-nil, get_or}
use Rattle.std.proofs.Common.{if◌then◌else◌, eq-eqb, map, Some}
use Rattle.std.proofs.lemmas.Bool.{true≢false, ne_eqb, eqb-true, false_from_ne_true}
use Rattle.std.proofs.lemmas.Bool.Decides.{eqb_tells}
use Rattle.std.proofs.lemmas.List.Elements.{All-from_recursion, recursion_from_All}
use Rattle.std.proofs.lemmas.List.Sorted.{All-permutation}
use Rattle.std.specs.List.{All, AllByRecursion as Every}
use Rattle.std.specs.List.Sorted.{IsPermutation}
use Rattle.record_forest.specs.declared.reference.Reference.{Reference}
use Rattle.record_forest.specs.declared.reference.Row.{Row}
use Rattle.record_forest.specs.Forest.{Forest, none, at, rows, all_rows, Everywhere}
use Rattle.record_forest.specs.Members.{Pairs}
use Rattle.record_forest.specs.References.{References}
use Rattle.record_forest.proofs.Lists.{every_join, every_left, every_right, every_weaker, every_both}
use Rattle.record_forest.proofs.Lists.{pairs_from, pairs_left}
use Rattle.record_forest.proofs.Lists.{pairs_right}
use Rattle.rom_tree.proofs.ByKind.{by_kind_directory, body_places_is}
use Rattle.rom_tree.specs.Dots.{is_dots}
use Rattle.rom_tree.specs.Image.{IsRun}
use Rattle.rom_tree.specs.Names.{Name, named, names, node_names, entries_names}
use Rattle.rom_tree.specs.Tree.{Node, node, Body, directory, regular, symlink, block, character, socket, fifo, Entries}
use Rattle.rom_tree.specs.Tree.{depth, entries_depth, places_of}
use Rattle.romfs_format.specs.Made.{StandsAt, grow, start_of}
use Rattle.romfs_format.specs.Record.{before_zero, first_of, has_data, name_of, next_of, type_of}
use Rattle.romfs_format.specs.Refers.{following, heads_itself, list_of, references, reference_offset}
use Rattle.romfs_format.specs.Superblock.{accessible}
use Rattle.romfs_format.specs.Tree.{IsTree, LeadsWell, attributes_at, below_root, entries_at, kind_numbers}
use Rattle.romfs_format.specs.Tree.{led, node_of}
use Rattle.romfs_format.specs.Tree.{by_type, places_at, tree_of}
use Rattle.romfs_format.proofs.Bridge.{standing}
use Rattle.romfs_format.proofs.Depths.{directory_depth}
use Rattle.romfs_format.proofs.Dots.{dot_cases, follow_self}
use Rattle.romfs_format.proofs.Trees.{led_self}
use Rattle.image_info.specs.Gaps.{most_records, romfs_forest}
use Rattle.image_info.specs.Held.{HoldsRomfs}
use Rattle.image_info.proofs.Forests.{romfs_is}
use Rattle.image_extents.specs.declared.extent.Extent.{Extent}
use Rattle.image_extents.specs.declared.extent.Record.{Record}
use Rattle.image_extents.specs.declared.extent.Extents.{Extents}
use Rattle.image_extents.specs.declared.extent.Kind.TheVariants.{Super}
use Rattle.image_extents.specs.Found.{found, found_from, romfs_found, romfs_all_found}
use Rattle.image_extents.specs.Listed.{listed, romfs_entry, romfs_listed, root_entry}
use Rattle.image_extents.specs.Lines.{owned, owners}
use Rattle.image_extents.specs.Owned.{AreOfFiles, HasBytes, run_of}
use Rattle.image_extents.specs.Sorted.{AreRomfs}
use Rattle.image_extents.specs.Tables.{no_next}
use Rattle.image_extents.proofs.Bytes.{has_bytes}
use Rattle.image_extents.proofs.DataRuns.{OfRomfs, found_of, other_found, places_in}
use Rattle.image_extents.proofs.Inside.{above_root, of_forest, of_rows}
use Rattle.image_extents.proofs.Named.{Format, AreOpen, Each, IsOpen, are_named}
use Rattle.image_extents.proofs.RomfsWalk.{whole}
use Rattle.image_extents.proofs.Sharing.{led_alone}
use Rattle.image_extents.proofs.Texts.{path_root}

-- ---- names

zero_cut : (xs : List ℕ) → take (length (before_zero xs)) xs ≡ before_zero xs
zero_cut [] = refl
zero_cut (x ∷ xs) = elim (x == 0) as
    (λ v. take (length (if v then [] else x ∷ before_zero xs)) (x ∷ xs) ≡ (if v then [] else x ∷ before_zero xs))
    [ true ↦ refl | false ↦ ap (λ (v : List ℕ). x ∷ v) (zero_cut xs) ]

pub name_cut : (b : List ℕ) (p : ℕ) → take (length (name_of b p)) (drop (p + 16) b) ≡ name_of b p
unfolding name_of
name_cut b p = zero_cut (drop (p + 16) b)

-- `.` and `..` are hard links
abbrev pub IsDotLink : List ℕ → ℕ → Type 0
IsDotLink b p = is_dots (name_of b p) ≡ true → type_of b p ≡ 0

module _ (b : List ℕ) where
  abbrev pub format : Format
  format = record {
    bytes = b;
    start = λ p. p + 16;
    len = λ p. length (name_of b p);
    name = name_of b;
    skip = λ p. is_dots (name_of b p);
    make = λ p es. node_of b (led 8 b p) es;
    entries = entries_at b;
    cut = name_cut b;
    nothing = refl;
    skipped = λ p own after e. rw e refl;
    shown = λ p own after e. rw e refl;
  }

  directory_names : (path : List ℕ) (p : ℕ) (es : Entries) → type_of b p ≡ 1
      → node_names path (node_of b p es) ≡ entries_names path es
  unfolding node_of node_names
  directory_names path p es t =
      ap (λ (v : Body). node_names path (node (attributes_at b p) v))
      (by_kind_directory kind_numbers (type_of b p) (directory es) (regular (places_at b p)) (symlink (places_at b p))
      block character socket fifo t)

  data_live : (p : ℕ) → has_data (type_of b p) ≡ true → type_of b p ≢ 0
  data_live p d z = true≢false (sym d ∙ ap has_data z)

  data_kinds : (t : ℕ) → has_data t ≡ true → (t ≡ 2) ⊎ (t ≡ 3)
  data_kinds t d = elim (eqb_tells t 2) [ inl h ↦ inl h.1 | inr h ↦ inr (eqb-true t 3 (rw h.0 at d)) ]

  pick_data : (t : ℕ) (ps : List ℕ) → has_data t ≡ true → by_type t [] ps ps [] [] [] [] ≡ ps
  pick_data t ps d = elim (data_kinds t d) [ inl h ↦ rw h refl | inr h ↦ rw h refl ]

  places_are : (p : ℕ) (own : Forest) → has_data (type_of b p) ≡ true
      → places_of (node_of b (led 8 b p) (entries_at b own)) ≡ places_at b p
  unfolding node_of
  places_are p own d =
      ap (λ (q : ℕ). places_of (node_of b q (entries_at b own))) (led_self 8 b p (data_live p d))
      ∙ (body_places_is kind_numbers (type_of b p) (places_at b p) (entries_at b own)
      ∙ pick_data (type_of b p) (places_at b p) d)

  shown_by : (p : ℕ) → IsDotLink b p → has_data (type_of b p) ≡ true → is_dots (name_of b p) ≡ false
  shown_by p l d = false_from_ne_true (is_dots (name_of b p)) (λ e. data_live p d (l e))

  list_kind : (p : ℕ) → first_of b p ≢ 0 → type_of b p ≡ 1
  unfolding first_of
  list_kind p n = elim (eqb_tells (type_of b p) 1) [ inl h ↦ h.1 | inr h ↦ absurd (n (rw h.0 refl)) ]

  pub open_by : (rs : List Record) (q : ℕ) (f : Forest) → StandsAt b q f → Everywhere (IsDotLink b) f
      → AreOpen format rs f
  open_by rs q none s h = tt
  open_by rs q (at p own after) s h = (
    is_open own s.2,
    open_by rs (first_of b p) own s.2 h.1,
    open_by rs (next_of b p) after s.3 h.2,
  )
    where
      is_open : (own : Forest) → StandsAt b (first_of b p) own → (own ≡ none) ⊎ IsOpen format rs p own
      is_open none s = inl refl
      is_open (at u v w) s =
          let kind : type_of b p ≡ 1 = list_kind p s.0 in
          let live : type_of b p ≢ 0 = λ z. absurd (omega (arith, kind, z)) in
          let same : led 8 b p ≡ p = led_self 8 b p live in
          let es : Entries = entries_at b (at u v w) in
          inr (record {
            shown = false_from_ne_true (is_dots (name_of b p)) (λ e. live (h.0 e));
            below = λ path. ap (λ (z : ℕ). node_names path (node_of b z es)) same ∙ directory_names path p es kind;
            deep = ap (λ (z : ℕ). depth (node_of b z es)) same ∙ directory_depth b p es kind;
          })

  pub root_names : (r : ℕ) (list : Forest) → type_of b r ≡ 1 → names (node_of b r (entries_at b list))
      ≡ named (47 ∷ []) [] (node_of b r (entries_at b list)) ∷ entries_names [] (entries_at b list)
  unfolding names
  root_names r list t = ap (λ (v : List Name). named (47 ∷ []) [] (node_of b r (entries_at b list)) ∷ v)
      (directory_names [] r (entries_at b list) t)

-- all data of an image whose records are these
module _ (b : List ℕ) (r : ℕ) (list : Forest) (e : Extents) where
  abbrev records : List Record
  records = root_entry r ∷ listed (romfs_entry b) 1 0 list

  pub named_below : StandsAt b (start_of b r) list → Everywhere (IsDotLink b) list
      → entries_depth (entries_at b list) ≤ 64
      → Each (format b) records (entries_names [] (entries_at b list)) 1 (listed (romfs_entry b) 1 0 list)
  named_below s dots deep = are_named (format b) records 1 0 0 [] list (root_entry r ∷ []) []
      (ap (λ (v : List Record). root_entry r ∷ v) (sym (append-nil (listed (romfs_entry b) 1 0 list)))) refl
      (omega arith) (λ most l. path_root b records most 0 refl) (omega (arith, deep))
      (open_by b records (start_of b r) list s dots)

  pub all_shown : Everywhere (IsDotLink b) list
      → Every (λ (x : Record). has_data (type_of b x.offset) ≡ true → is_dots (name_of b x.offset) ≡ false)
      (listed (romfs_entry b) 1 0 list)
  all_shown dots = every_weaker (λ (x : Record). IsDotLink b x.offset)
      (λ (x : Record). has_data (type_of b x.offset) ≡ true → is_dots (name_of b x.offset) ≡ false)
      (λ x l. shown_by b x.offset l) (listed (romfs_entry b) 1 0 list)
      (of_forest (IsDotLink b) (romfs_entry b) (λ p d. refl) 1 0 list dots)

  each_of : romfs_listed b r ≡ records → Every (OfRomfs records b) (romfs_all_found b r)
  unfolding romfs_all_found
  each_of is = every_join (OfRomfs records b) (found Super 0 r 0 0) (found_from (romfs_found b) 0 (romfs_listed b r))
      (other_found records (λ p. has_data (type_of b p)) (places_at b) Super (λ d. absurd (cc)) 0 r 0 0)
      (subst (λ (v : List Record). Every (OfRomfs records b) (found_from (romfs_found b) 0 v)) (sym is)
      (found_of records b 0 [] records refl refl))

  of_files : romfs_listed b r ≡ records → e.bytes.now ≡ b → e.records.items ≡ romfs_listed b r
      → e.next.items ≡ map no_next (romfs_listed b r)
      → IsPermutation (romfs_all_found b r) e.extents.items → type_of b r ≡ 1 → StandsAt b (start_of b r) list
      → Everywhere (IsDotLink b) list → entries_depth (entries_at b list) ≤ 64
      → AreOfFiles (node_of b r (entries_at b list)) e
  of_files is bytes items next moved t s dots deep =
      let all : All (OfRomfs records b) e.extents.items =
      All-permutation (OfRomfs records b) (romfs_all_found b r) e.extents.items moved
      (All-from_recursion (OfRomfs records b) (romfs_all_found b r) (each_of is)) in
      let tree : Node = node_of b r (entries_at b list) in
      λ k d l kind.
      let x : Extent = get_or e.extents.items k d in
      let P : ℕ → List ℕ = places_in records (λ p. has_data (type_of b p)) (places_at b) in
      let Held : ℕ → Type 0 = λ i. HasBytes tree e (owned x i) in
      All-from_recursion Held (owners e x) (every_weaker (λ i. i ≡ x.owner) Held (λ i same.
      has_bytes (format b) (root_entry r) (listed (romfs_entry b) 1 0 list)
      (λ p. has_data (type_of b p)) (places_at b) (places_are b) (all_shown dots) (ap has_data t)
      (entries_names [] (entries_at b list)) (named_below s dots deep) tree _ e
      (owned x i) (root_names b r list t) bytes (items ∙ is)
      (subst (λ (v : ℕ). IsRun (P v) x.offset (run_of x)) (sym same) (all k d l kind)))
      (owners e x) (led_alone (romfs_listed b r) e.next.items next (length e.records.items) x.owner))

-- ---- `.` and `..`

-- a record is not its own directory, and not that of its directory
apart_rows : (g : References) (x : Reference) (d u deep : ℕ) (f : Forest)
    → Every (λ (y : Row). d ≢ y.offset) (rows g x d u deep f) → Every (λ (y : Row). u ≢ y.offset) (rows g x d u deep f)
    → Pairs (λ (y : Row) (z : Row). y.offset ≢ z.offset) (rows g x d u deep f)
    → Every (λ (y : Row). (y.offset ≢ y.directory) × (y.offset ≢ y.parent)) (rows g x d u deep f)
apart_rows g x d u deep none h k single = tt
apart_rows g x d u deep (at p own after) h k single =
    let R : Row → Row → Type 0 = λ y z. y.offset ≢ z.offset in
    let own_rows = rows g (g.own x) p d (deep + 1) own in
    let after_rows = rows g (g.after x) d u deep after in (
      (λ e. h.0 (sym e), λ e. k.0 (sym e)),
      every_join (λ (y : Row). (y.offset ≢ y.directory) × (y.offset ≢ y.parent)) own_rows after_rows
          (apart_rows g (g.own x) p d (deep + 1) own
          (every_left (λ (y : Row). p ≢ y.offset) own_rows after_rows single.0)
          (every_left (λ (y : Row). d ≢ y.offset) own_rows after_rows h.1) (pairs_left R own_rows after_rows single.1))
          (apart_rows g (g.after x) d u deep after (every_right (λ (y : Row). d ≢ y.offset) own_rows after_rows h.1)
          (every_right (λ (y : Row). u ≢ y.offset) own_rows after_rows k.1)
          (pairs_right R own_rows after_rows single.1)),
    )

dot_link : (b : List ℕ) (all : List Row) (y : Row) → LeadsWell b all y
    → (y.offset ≢ y.directory) × (y.offset ≢ y.parent) → IsDotLink b y.offset
dot_link b all y leads apart e = elim (eqb_tells (type_of b y.offset) 0) [
  | inl h ↦ h.1
  | inr h ↦
      let stays = follow_self b all 8 y.offset h.1 in
      elim (dot_cases (name_of b y.offset) e) [
        | inl k ↦ let z : Some y.offset ≡ Some y.directory =
            sym stays ∙ leads.here k in absurd (apart.0 (let w : y.offset ≡ y.directory = cc in w))
        | inr k ↦ let z : Some y.offset ≡ Some y.parent =
            sym stays ∙ leads.above k in absurd (apart.1 (let w : y.offset ≡ y.parent = cc in w))
      ]
]

-- ---- a whole image

-- the records to which the root's two references lead
own_is : (b : List ℕ) (r : ℕ) → r ≢ 0 → reference_offset b r ((references b r).own (references b r).top) ≡ list_of b r r
unfolding reference_offset
own_is b r live = rw (ne_eqb r 0 live) refl

after_is : (b : List ℕ) (r : ℕ) → r ≢ 0
    → reference_offset b r ((references b r).after (references b r).top) ≡ following b r r
unfolding reference_offset
after_is b r live = rw (ne_eqb r 0 live) refl

-- the two lists of the root stand in the bytes, and their `.` and `..` are links
pub record AreKnown (b : List ℕ) (r : ℕ) (own after : Forest) : Type 0 where
  pub own_stands : StandsAt b (list_of b r r) own
  pub after_stands : StandsAt b (following b r r) after
  pub own_dots : Everywhere (IsDotLink b) own
  pub after_dots : Everywhere (IsDotLink b) after

pub are_known : (b : List ℕ) (r most deepest : ℕ) → r ≢ 0 → (own after : Forest)
    → IsTree b r most deepest (at r own after)
    → AreKnown b r own after
are_known b r most deepest live own after t =
    let g = references b r in
    let R : Row → Row → Type 0 = λ y z. y.offset ≢ z.offset in
    let all = all_rows g (at r own after) in
    let own_rows = rows g (g.own g.top) r r 1 own in
    let after_rows = rows g (g.after g.top) r r 1 after in
    let single = pairs_from R all t.forest.single in
    let leads : Every (LeadsWell b all) (own_rows ++ after_rows) =
    recursion_from_All (LeadsWell b all) (own_rows ++ after_rows) t.leads in
    let Apart : Row → Type 0 = λ y. (y.offset ≢ y.directory) × (y.offset ≢ y.parent) in
    let Other : Row → Type 0 = λ y. r ≢ y.offset in
    let left = every_left Other own_rows after_rows single.0 in
    let right = every_right Other own_rows after_rows single.0 in
    let own_apart : Every Apart own_rows = apart_rows g (g.own g.top) r r 1 own left left
    (pairs_left R own_rows after_rows single.1) in
    let after_apart : Every Apart after_rows = apart_rows g (g.after g.top) r r 1 after right right
    (pairs_right R own_rows after_rows single.1) in
    let Dots : Row → Type 0 = λ y. IsDotLink b y.offset in
    let own_links : Every Dots own_rows = every_weaker (λ y. LeadsWell b all y × Apart y) Dots
    (λ y k. dot_link b all y k.0 k.1) own_rows
    (every_both (LeadsWell b all) Apart own_rows (every_left (LeadsWell b all) own_rows after_rows leads) own_apart) in
    let after_links : Every Dots after_rows = every_weaker (λ y. LeadsWell b all y × Apart y) Dots
    (λ y k. dot_link b all y k.0 k.1) after_rows
    (every_both (LeadsWell b all) Apart after_rows (every_right (LeadsWell b all) own_rows after_rows leads)
    after_apart) in
    record {
      own_stands = subst (λ (q : ℕ). StandsAt b q own) (own_is b r live)
          (standing b r (g.own g.top) r r 1 own t.forest.stands.1 left);
      after_stands = subst (λ (q : ℕ). StandsAt b q after) (after_is b r live)
          (standing b r (g.after g.top) r r 1 after t.forest.stands.2 right);
      own_dots = of_rows (IsDotLink b) (romfs_entry b) (λ p d. refl) g (g.own g.top) r r 1 own own_links;
      after_dots = of_rows (IsDotLink b) (romfs_entry b) (λ p d. refl) g (g.after g.top) r r 1 after after_links;
    }

start_heads : (b : List ℕ) (r : ℕ) → heads_itself b r ≡ true → following b r r ≡ start_of b r
unfolding following start_of
start_heads b r e = rw (eq-eqb r r refl, e) refl

start_other : (b : List ℕ) (r : ℕ) → heads_itself b r ≡ false → list_of b r r ≡ start_of b r
unfolding list_of start_of
start_other b r e = rw (eq-eqb r r refl, e) refl

-- the root's list without the root
pub record IsList (b : List ℕ) (r : ℕ) : Type 0 where
  pub stands : StandsAt b (start_of b r) (grow most_records b (start_of b r))
  pub dots : Everywhere (IsDotLink b) (grow most_records b (start_of b r))
  pub below : below_root b r (romfs_forest b r) ≡ grow most_records b (start_of b r)

pub is_list : (b : List ℕ) (r : ℕ)
    → AreKnown b r (grow most_records b (list_of b r r)) (grow most_records b (following b r r)) → IsList b r
unfolding romfs_forest
is_list b r k = by (heads_itself b r) refl
  where
    by : (v : Bool) → heads_itself b r ≡ v → IsList b r
    by true e =
        let s = start_heads b r e in
        record {
          stands = subst (λ (q : ℕ). StandsAt b q (grow most_records b q)) s k.after_stands;
          dots = subst (λ (q : ℕ). Everywhere (IsDotLink b) (grow most_records b q)) s k.after_dots;
          below = rw e (ap (grow most_records b) s);
        }
    by false e =
        let s = start_other b r e in
        record {
          stands = subst (λ (q : ℕ). StandsAt b q (grow most_records b q)) s k.own_stands;
          dots = subst (λ (q : ℕ). Everywhere (IsDotLink b) (grow most_records b q)) s k.own_dots;
          below = rw e (ap (grow most_records b) s);
        }

pub romfs_bytes : (all : List ℕ) (r : ℕ) (e : Extents) (h : HoldsRomfs all r) → AreRomfs (accessible all) r e
    → AreOfFiles (tree_of (accessible all) r h.forest) e
unfolding tree_of romfs_forest
romfs_bytes all r e h a =
    let b : List ℕ = accessible all in
    let live = above_root b r h.superblock.root in
    let kind = h.superblock.directory in
    let same : romfs_forest b r ≡ h.forest = romfs_is b r h.most h.deepest h.forest live h.whole h.few in
    let t : IsTree b r h.most h.deepest (romfs_forest b r) =
    subst (IsTree b r h.most h.deepest) (sym same) h.whole in
    let list : Forest = grow most_records b (start_of b r) in
    let k = is_list b r (are_known b r h.most h.deepest live (grow most_records b (list_of b r r))
    (grow most_records b (following b r r)) t) in
    let shallow : depth (node_of b r (entries_at b list)) ≤ min h.deepest 64 =
    subst (λ (f : Forest). depth (node_of b r (entries_at b f)) ≤ min h.deepest 64) k.below t.shallow in
    let same_depth = directory_depth b r (entries_at b list) kind in
    let deep : entries_depth (entries_at b list) ≤ 64 = grind (arith, shallow, same_depth) in
    subst (λ (f : Forest). AreOfFiles (tree_of b r f) e) same
    (subst (λ (f : Forest). AreOfFiles (node_of b r (entries_at b f)) e) (sym k.below)
    (of_files b r list e (whole b r) a.bytes a.records a.next a.extents.same kind k.stands k.dots deep))
