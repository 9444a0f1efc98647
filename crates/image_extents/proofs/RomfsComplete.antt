-- No byte of a romfs file is left out of the collected extents.
use Rattle.std.proofs.Common.{◌≡◌, ◌≢◌, ◌≤◌, ◌<◌, ◌⊎◌, ℕ, zero, suc, ◌+◌, ◌-◌, ◌==◌, Bool, true, false, List, [], ◌∷◌}
use Rattle.std.proofs.Common.{◌++◌}
use Rattle.std.proofs.Common.{length, min, refl, sym, ap, subst, ◌∙◌, arith, inl, inr, append-nil, if◌then◌else◌}
use Rattle.std.proofs.Common.{eqb-true}
use Rattle.std.specs.Prelude.{◌||◌}
use Rattle.std.proofs.lemmas.Bool.{true≢false, eq-eqb}
use Rattle.std.proofs.lemmas.Bool.Decides.{eqb_tells}
use Rattle.std.proofs.lemmas.List.Elements.{recursion_from_All, All-from_recursion}
use Rattle.std.proofs.lemmas.List.Sorted.{Contains-permutation}
use Rattle.std.specs.List.{AllByRecursion as Every, Contains, list_any}
use Rattle.std.specs.Prelude.{slice_get, slice_index, Option, None, Some}
use Rattle.record_forest.specs.declared.reference.Reference.{Reference}
use Rattle.record_forest.specs.declared.reference.Row.{Row}
use Rattle.record_forest.specs.Forest.{Forest, none, at, count, rows, all_rows, Everywhere}
use Rattle.record_forest.specs.References.{References}
use Rattle.record_forest.proofs.Lists.{every_weaker}
use Rattle.rom_tree.proofs.ByKind.{body_places_is, by_kind_map}
use Rattle.rom_tree.proofs.Numbers.{length_row, row_at}
use Rattle.rom_tree.specs.Dots.{is_dots}
use Rattle.rom_tree.specs.Names.{Name, named, names, node_names, entries_names}
use Rattle.rom_tree.specs.Tree.{Node, node, Body, directory, regular, symlink, block, character, socket, fifo}
use Rattle.rom_tree.specs.Tree.{Entries, no_entries, depth, entries_depth, ino_of, places_of}
use Rattle.romfs_format.specs.Made.{StandsAt, grow, start_of}
use Rattle.romfs_format.specs.Record.{end_of, has_data, name_of, size_of, spec_offset_of, type_of}
use Rattle.romfs_format.specs.Refers.{following, list_of, references}
use Rattle.romfs_format.specs.Superblock.{accessible}
use Rattle.romfs_format.specs.Tree.{IsTree, LeadsWell, attributes_at, by_type, entries_at, follow, kind_numbers}
use Rattle.romfs_format.specs.Tree.{led, node_of, places_at, tree_of}
use Rattle.romfs_format.proofs.Depths.{directory_depth}
use Rattle.romfs_format.proofs.Trees.{ino_is, led_self}
use Rattle.image_info.specs.Gaps.{most_records, romfs_forest}
use Rattle.image_info.specs.Held.{HoldsRomfs}
use Rattle.image_info.proofs.Forests.{romfs_is}
use Rattle.image_extents.specs.declared.extent.Extent.{Extent}
use Rattle.image_extents.specs.declared.extent.Record.{Record}
use Rattle.image_extents.specs.declared.extent.Extents.{Extents}
use Rattle.image_extents.specs.declared.extent.Kind.TheVariants.{Data, Header, Super}
use Rattle.image_extents.specs.Complete.{HasAllBytesOfNodes, HasByte, HasByteOf}
use Rattle.image_extents.specs.Found.{found, found_from, romfs_all_found, romfs_found}
use Rattle.image_extents.specs.Lines.{owners}
use Rattle.image_extents.specs.Listed.{all_listed, listed, path_of, romfs_entry, romfs_listed, root_entry}
use Rattle.image_extents.specs.Sorted.{AreRomfs}
use Rattle.image_extents.specs.Tables.{led as led_owners}
use Rattle.image_extents.proofs.Inside.{above_root, of_all}
use Rattle.image_extents.proofs.Kept.{Any, Has, any_among, any_left, any_right}
use Rattle.image_extents.proofs.Named.{Each, IsNamed, contains_more}
use Rattle.image_extents.proofs.Recorded.{IsRecorded, Recorded, are_recorded}
use Rattle.image_extents.proofs.RomfsBytes.{IsDotLink, all_shown, are_known, format, is_list, named_below, open_by}
use Rattle.image_extents.proofs.RomfsBytes.{root_names}
use Rattle.image_extents.proofs.RomfsWalk.{whole}
use Rattle.image_extents.proofs.Texts.{no_record, path_below, path_root}

-- ---- where hard links lead

-- a record at q
abbrev AnyAt : ℕ → List Record → Type 0
AnyAt q [] = ⊥
AnyAt q (x ∷ xs) = (x.offset ≡ q) ⊎ AnyAt q xs

at_left : (q : ℕ) (xs ys : List Record) → AnyAt q xs → AnyAt q (xs ++ ys)
at_left q [] ys h = absurd h
at_left q (x ∷ xs) ys (inl h) = inl h
at_left q (x ∷ xs) ys (inr h) = inr (at_left q xs ys h)

at_right : (q : ℕ) (xs ys : List Record) → AnyAt q ys → AnyAt q (xs ++ ys)
at_right q [] ys h = h
at_right q (x ∷ xs) ys h = inr (at_right q xs ys h)

-- a row at q
abbrev is_row : ℕ → Row → Bool
is_row q x = x.offset == q

row_parts : (q : ℕ) (xs ys : List Row) → list_any (is_row q) (xs ++ ys) ≡ true
    → (list_any (is_row q) xs ≡ true) ⊎ (list_any (is_row q) ys ≡ true)
row_parts q [] ys h = inr h
row_parts q (x ∷ xs) ys h = by (x.offset == q) (row_parts q xs ys) h
  where
    by : (v : Bool) → (list_any (is_row q) (xs ++ ys) ≡ true
        → (list_any (is_row q) xs ≡ true) ⊎ (list_any (is_row q) ys ≡ true))
        → (v || list_any (is_row q) (xs ++ ys)) ≡ true
        → ((v || list_any (is_row q) xs) ≡ true) ⊎ (list_any (is_row q) ys ≡ true)
    by true f k = inl refl
    by false f k = f k

rows_listed : (b : List ℕ) (q : ℕ) (g : References) (x : Reference) (d u deep n m : ℕ) (f : Forest)
    → list_any (is_row q) (rows g x d u deep f) ≡ true → AnyAt q (listed (romfs_entry b) n m f)
rows_listed b q g x d u deep n m none h = absurd (true≢false (sym h))
rows_listed b q g x d u deep n m (at p own after) h =
    by (p == q) refl (rows_listed b q g (g.own x) p d (deep + 1) (suc n) n own)
    (rows_listed b q g (g.after x) d u deep (suc n + count own) m after) h
  where
    own_rows : List Row
    own_rows = rows g (g.own x) p d (deep + 1) own

    after_rows : List Row
    after_rows = rows g (g.after x) d u deep after

    own_list : List Record
    own_list = listed (romfs_entry b) (suc n) n own

    after_list : List Record
    after_list = listed (romfs_entry b) (suc n + count own) m after

    by : (v : Bool) → (p == q) ≡ v → (list_any (is_row q) own_rows ≡ true → AnyAt q own_list)
        → (list_any (is_row q) after_rows ≡ true → AnyAt q after_list)
        → (v || list_any (is_row q) (own_rows ++ after_rows)) ≡ true
        → AnyAt q (romfs_entry b p m ∷ (own_list ++ after_list))
    by true e one two k = inl (eqb-true p q e)
    by false e one two k = elim (row_parts q own_rows after_rows k) [
      | inl z ↦ inr (at_left q own_list after_list (one z))
      | inr z ↦ inr (at_right q own_list after_list (two z))
    ]

all_rows_listed : (b : List ℕ) (q : ℕ) (g : References) (f : Forest) → list_any (is_row q) (all_rows g f) ≡ true
    → AnyAt q (all_listed (romfs_entry b) f)
all_rows_listed b q g none h = absurd (true≢false (sym h))
all_rows_listed b q g (at r own after) h = by (r == q) refl h
  where
    own_rows : List Row
    own_rows = rows g (g.own g.top) r r 1 own

    after_rows : List Row
    after_rows = rows g (g.after g.top) r r 1 after

    own_list : List Record
    own_list = listed (romfs_entry b) 1 0 own

    after_list : List Record
    after_list = listed (romfs_entry b) (suc (count own)) 0 after

    by : (v : Bool) → (r == q) ≡ v → (v || list_any (is_row q) (own_rows ++ after_rows)) ≡ true
        → AnyAt q (root_entry r ∷ (own_list ++ after_list))
    by true e k = inl (eqb-true r q e)
    by false e k = elim (row_parts q own_rows after_rows k) [
      | inl z ↦ inr (at_left q own_list after_list (rows_listed b q g (g.own g.top) r r 1 1 0 own z))
      | inr z ↦ inr (at_right q own_list after_list
          (rows_listed b q g (g.after g.top) r r 1 (suc (count own)) 0 after z))
    ]

led_in : (n : ℕ) (b : List ℕ) (p : ℕ) → type_of b p ≡ 0 → led (suc n) b p ≡ led n b (spec_offset_of b p)
unfolding led
led_in zero b p h = rw (eq-eqb (type_of b p) 0 h) refl
led_in (suc n) b p h = ap (λ (q : ℕ). if type_of b q == 0 then spec_offset_of b q else q) (led_in n b p h)

-- a link leads to a row
record LeadsTo (b : List ℕ) (all : List Row) (n p q : ℕ) : Type 0 where
  leads : led n b p ≡ q
  among : (q ≡ p) ⊎ (list_any (is_row q) all ≡ true)

follow_row : (b : List ℕ) (all : List Row) (n p q : ℕ) → follow b all n p ≡ Some q → LeadsTo b all n p q
unfolding follow
follow_row b all zero p q e = elim (eqb_tells (type_of b p) 0) [
  | inl h ↦ let z = (rw h.0 at e) in absurd (cc)
  | inr h ↦ let z : Some p ≡ Some q =
      (rw h.0 at e) in let y : p ≡ q = cc in record { leads = led_self 0 b p h.1 ∙ y; among = inl (sym y) }
]
follow_row b all (suc n) p q e = elim (eqb_tells (type_of b p) 0) [
  | inl h ↦
      let t : ℕ = spec_offset_of b p in
      let e' : (if list_any (is_row t) all then follow b all n t else None) ≡ Some q = (rw h.0 at e) in
      by (list_any (is_row t) all) refl h.1 (follow_row b all n t q) e'
  | inr h ↦ let z : Some p ≡ Some q =
      (rw h.0 at e) in let y : p ≡ q = cc in record { leads = led_self (suc n) b p h.1 ∙ y; among = inl (sym y) }
]
  where
    by : (v : Bool) → list_any (is_row (spec_offset_of b p)) all ≡ v → type_of b p ≡ 0
        → (follow b all n (spec_offset_of b p) ≡ Some q → LeadsTo b all n (spec_offset_of b p) q)
        → (if v then follow b all n (spec_offset_of b p) else None) ≡ Some q → LeadsTo b all (suc n) p q
    by true t k f z =
        let m = f z in
        record {
          leads = led_in n b p k ∙ m.leads;
          among = elim m.among [
            | inl i ↦ inr (subst (λ (v : ℕ). list_any (is_row v) all ≡ true) (sym i) t)
            | inr i ↦ inr i
          ];
        }
    by false t k f z = absurd (cc)

-- ---- records and their numbers

record IsNumbered (q : ℕ) (xs : List Record) : Type 0 where
  index : ℕ
  item : Record
  there : slice_get xs index ≡ Some item
  is : item.offset ≡ q

numbered : (q : ℕ) (xs : List Record) → AnyAt q xs → IsNumbered q xs
numbered q [] h = absurd h
numbered q (x ∷ xs) (inl e) = record { index = 0; item = x; there = refl; is = e }
numbered q (x ∷ xs) (inr h) =
    let i = numbered q xs h in
    record { index = suc i.index; item = i.item; there = i.there; is = i.is }

module _ (P : Record → Type 0) where
  by_number : (xs : List Record) → Every P xs → (i : ℕ) (x : Record) → slice_get xs i ≡ Some x → P x
  by_number [] h i x e = absurd (let z = no_record [] i (omega arith) in cc)
  by_number (y ∷ ys) h zero x e = let z : y ≡ x = cc in subst P z h.0
  by_number (y ∷ ys) h (suc i) x e = by_number ys h.1 i x e

-- the extents of a record are among those of all
found_adds : (P : Extent → Type 0) (of : ℕ → ℕ → List Extent) (n i : ℕ) (ys : List Record) (x : Record)
    → slice_get ys i ≡ Some x → Any P (of x.offset (n + i)) → Any P (found_from of n ys)
found_adds P of n i [] x e h = absurd (let z = no_record [] i (omega arith) in cc)
found_adds P of n zero (y ∷ ys) x e h =
    let z : y ≡ x = cc in
    let m : n + 0 ≡ n = omega arith in
    any_left P (of y.offset n) (found_from of (suc n) ys)
    (subst (λ (v : ℕ). Any P (of y.offset v)) m (subst (λ (v : Record). Any P (of v.offset (n + 0))) (sym z) h))
found_adds P of n (suc i) (y ∷ ys) x e h =
    let m : n + suc i ≡ suc n + i = omega arith in
    any_right P (of y.offset n) (found_from of (suc n) ys)
    (found_adds P of (suc n) i ys x e (subst (λ (v : ℕ). Any P (of x.offset v)) m h))

data_adds : (start len k i : ℕ) → k < len → Any (Has i k (start + k)) (found Data start len 0 i)
data_adds start zero k i l = absurd (omega (arith, l))
data_adds start (suc n) k i l = inl (record {
  kind = refl;
  owner = refl;
  low = omega arith;
  high = omega (arith, l);
  byte = omega arith;
})

record_adds : (b : List ℕ) (q k i : ℕ) → has_data (type_of b q) ≡ true → k < size_of b q
    → Any (Has i k (end_of b q + k)) (romfs_found b q i)
record_adds b q k i d l = any_right (Has i k (end_of b q + k)) (found Header q (end_of b q - q) 0 i)
    (if has_data (type_of b q) then found Data (end_of b q) (size_of b q) 0 i else [])
    (subst (λ v. Any (Has i k (end_of b q + k)) (if v then found Data (end_of b q) (size_of b q) 0 i else [])) (sym d)
    (data_adds (end_of b q) (size_of b q) k i l))

-- ---- nodes

pick : {A : Type 0} (t : ℕ) (a n : A) → by_type t n a a n n n n ≡ (if has_data t then a else n)
pick t a n =
    elim (eqb_tells t 1) [
      | inl h ↦ rw (h.1) refl
      | inr h ↦
          elim (eqb_tells t 2) [
            | inl i ↦ rw (i.1) refl
            | inr i ↦
                elim (eqb_tells t 3) [
                  | inl j ↦ rw (j.1) refl
                  | inr j ↦
                      elim (eqb_tells t 4) [
                        | inl k ↦ rw (k.1) refl
                        | inr k ↦
                            elim (eqb_tells t 5) [
                              | inl l ↦ rw (l.1) refl
                              | inr l ↦
                                  elim (eqb_tells t 6) [
                                    | inl m ↦ rw (m.1) refl
                                    | inr m ↦ rw
                                        (h.0, i.0, j.0, k.0, l.0, m.0) refl
                                  ]
                            ]
                      ]
                ]
          ]
    ]

data_type : (t : ℕ) → has_data t ≡ true → (t ≢ 0) × (t ≢ 1)
data_type t d = (λ z. true≢false (sym d ∙ ap has_data z), λ z. true≢false (sym d ∙ ap has_data z))

module _ (b : List ℕ) where
  node_places : (q : ℕ) (es : Entries)
      → places_of (node_of b q es) ≡ (if has_data (type_of b q) then places_at b q else [])
  unfolding node_of
  node_places q es =
      body_places_is kind_numbers (type_of b q) (places_at b q) es ∙ pick (type_of b q) (places_at b q) []

  leaf : (path : List ℕ) (p : ℕ) → node_names path (node_of b (led 8 b p) no_entries) ≡ []
  unfolding node_of node_names
  leaf path p =
      let q : ℕ = led 8 b p in
      by_kind_map (λ (v : Body). node_names path (node (attributes_at b q) v)) kind_numbers (type_of b q)
      (directory no_entries) (regular (places_at b q)) (symlink (places_at b q)) block character socket fifo
      ∙ sym (by_kind_map (λ (v : ℕ). []) kind_numbers (type_of b q) 0 0 0 0 0 0 0)

  places_length : (q : ℕ) → length (places_at b q) ≡ size_of b q
  unfolding places_at
  places_length q = length_row (end_of b q) (size_of b q)

  place_is : (q k : ℕ) → k < size_of b q → slice_index (places_at b q) k ≡ end_of b q + k
  unfolding places_at
  place_is q k l = row_at (end_of b q) (size_of b q) k l

  record IsData (q k : ℕ) (ps : List ℕ) : Type 0 where
    kind : has_data (type_of b q) ≡ true
    here : k < size_of b q
    is : ps ≡ places_at b q

  data_by : (v : Bool) (q k : ℕ) (ps : List ℕ) → has_data (type_of b q) ≡ v
      → ps ≡ (if v then places_at b q else []) → k < length ps → IsData q k ps
  data_by true q k ps e is l =
      let n = places_length q in
      let m = ap length is in
      record { kind = e; here = omega (arith, l, n, m); is = is }
  data_by false q k ps e is l = let m = ap length is in absurd (omega (arith, l, m))

kept_in : {X : Type 0} (P : X → Type 0) (xs : List X) → Every P xs → (x : X) → Contains xs x → P x
kept_in P xs h x c = subst P c.2 (All-from_recursion P xs h c.0 x c.1)

in_front : {X : Type 0} (P : X → Type 0) (x : X) (xs : List X) → P x → Every P xs → Every P (x ∷ xs)
in_front P x xs h k = (h, k)

-- ---- a whole image

-- a link below the root leads to a row
abbrev IsLink : List ℕ → List Row → ℕ → Type 0
IsLink b all p = is_dots (name_of b p) ≡ false → type_of b p ≡ 0 → (q : ℕ) × (follow b all 8 p ≡ Some q)
    × (type_of b q ≢ 1)

module _ (b : List ℕ) (r : ℕ) (list : Forest) (e : Extents) where
  abbrev records : List Record
  records = root_entry r ∷ listed (romfs_entry b) 1 0 list

  abbrev names_below : List Name
  names_below = entries_names [] (entries_at b list)

  abbrev tree : Node
  tree = node_of b r (entries_at b list)

  below_recorded : StandsAt b (start_of b r) list → Everywhere (IsDotLink b) list
      → entries_depth (entries_at b list) ≤ 64 → Recorded (format b) records (leaf b) names_below
  below_recorded s dots deep = are_recorded (format b) records (leaf b) 1 0 0 [] list (root_entry r ∷ []) []
      (ap (λ (v : List Record). root_entry r ∷ v) (sym (append-nil (listed (romfs_entry b) 1 0 list)))) refl
      (omega arith) (λ most l. path_root b records most 0 refl) (omega (arith, deep))
      (open_by b records (start_of b r) list s dots)

  -- what is known of an image's records
  record AreKnown (all : List Row) : Type 0 where
    whole : romfs_listed b r ≡ records
    rooted : type_of b r ≡ 1
    each : Each (format b) records names_below 1 (listed (romfs_entry b) 1 0 list)
    shown : Every (λ (x : Record). has_data (type_of b x.offset) ≡ true → is_dots (name_of b x.offset) ≡ false)
        (listed (romfs_entry b) 1 0 list)
    links : Every (λ (x : Record). IsLink b all x.offset) records
    among : (q : ℕ) → list_any (is_row q) all ≡ true → AnyAt q records

  -- the i-th record below the root, if it has data, is one of the names
  named_at : (ns : List Name) (n i : ℕ) (xs : List Record) (x : Record) → Each (format b) records ns n xs
      → slice_get xs i ≡ Some x → is_dots (name_of b x.offset) ≡ false → IsNamed (format b) records ns (n + i) x.offset
  named_at ns n i [] x h g s = absurd (let z = no_record [] i (omega arith) in cc)
  named_at ns n zero (y ∷ ys) x h g s =
      let z : y ≡ x = cc in
      let m : n ≡ n + 0 = omega arith in
      subst (λ (v : ℕ). IsNamed (format b) records ns v x.offset) m
      (subst (λ (v : Record). is_dots (name_of b v.offset) ≡ false → IsNamed (format b) records ns n v.offset) z h.0 s)
  named_at ns n (suc i) (y ∷ ys) x h g s =
      let m : suc n + i ≡ n + suc i = omega arith in
      subst (λ (v : ℕ). IsNamed (format b) records ns v x.offset) m (named_at ns (suc n) i ys x h.1 g s)

  -- a record with data, by its number
  record IsHolder (q : ℕ) : Type 0 where
    index : ℕ
    live : index ≢ 0
    item : Record
    there : slice_get records index ≡ Some item
    is : item.offset ≡ q
    name : IsNamed (format b) records names_below index q

  holder : (all : List Row) → AreKnown all → (q : ℕ) → has_data (type_of b q) ≡ true → AnyAt q records → IsHolder q
  holder all k q d h = by (numbered q records h).index (numbered q records h).item (numbered q records h).there
      (numbered q records h).is
    where
      rest : List Record
      rest = listed (romfs_entry b) 1 0 list

      by : (i : ℕ) (x : Record) → slice_get records i ≡ Some x → x.offset ≡ q → IsHolder q
      by zero x g z =
          let first : root_entry r ≡ x = cc in
          let at_root : r ≡ q = ap (λ (v : Record). v.offset) first ∙ z in
          absurd ((data_type (type_of b q) d).1 (ap (type_of b) (sym at_root) ∙ k.rooted))
      by (suc i) x g z =
          let s : is_dots (name_of b x.offset) ≡ false = by_number
          (λ (x : Record). has_data (type_of b x.offset) ≡ true → is_dots (name_of b x.offset) ≡ false) rest k.shown i x
          g (ap (λ (v : ℕ). has_data (type_of b v)) z ∙ d) in
          let m : 1 + i ≡ suc i = omega arith in
          record {
            index = suc i;
            live = λ w. absurd (omega (arith, w));
            item = x;
            there = g;
            is = z;
            name = subst (λ (v : ℕ). IsNamed (format b) records names_below (suc i) v) z
                (subst (λ (v : ℕ). IsNamed (format b) records names_below v x.offset) m
                (named_at names_below 1 i rest x k.each g s));
          }

  -- where the record at p leads, if it leads to data
  leads_among : (all : List Row) → AreKnown all → (i : ℕ) (x : Record) → slice_get records i ≡ Some x
      → is_dots (name_of b x.offset) ≡ false → has_data (type_of b (led 8 b x.offset)) ≡ true
      → AnyAt (led 8 b x.offset) records
  leads_among all k i x g s d = elim (eqb_tells (type_of b x.offset) 0) [
    | inl h ↦
        let l = by_number (λ (x : Record). IsLink b all x.offset) records k.links i x g s h.1 in
        let f = follow_row b all 8 x.offset l.0 l.1 in
        subst (λ (v : ℕ). AnyAt v records) (sym f.leads) (elim f.among [
          | inl z ↦ absurd ((data_type (type_of b (led 8 b x.offset)) d).0
              (ap (type_of b) (f.leads ∙ z) ∙ h.1))
          | inr z ↦ k.among l.0 z
        ])
    | inr h ↦ subst (λ (v : ℕ). AnyAt v records) (sym (led_self 8 b x.offset h.1)) (at_number i records x g)
  ]
    where
      at_number : (i : ℕ) (xs : List Record) (x : Record) → slice_get xs i ≡ Some x → AnyAt x.offset xs
      at_number i [] x g = absurd (let z = no_record [] i (omega arith) in cc)
      at_number zero (y ∷ ys) x g = let z : y ≡ x = cc in inl (ap (λ (v : Record). v.offset) z)
      at_number (suc i) (y ∷ ys) x g = inr (at_number i ys x g)

  owner_led : (next : List (Option ℕ)) (n i : ℕ) → 0 < n → Contains (led_owners next n (Some i)) i
  owner_led next zero i l = absurd (omega (arith, l))
  owner_led next (suc n) i l = (0, omega arith, refl)

  has_byte_at : AreRomfs b r e → (all : List Row) → AreKnown all → (q k : ℕ) → has_data (type_of b q) ≡ true
      → k < size_of b q → (h : IsHolder q) → HasByte e h.name.name.path k (end_of b q + k)
  unfolding romfs_all_found
  has_byte_at a all k q n d l h =
      let i : ℕ = h.index in
      let P : Extent → Type 0 = Has i n (end_of b q + n) in
      let z : i ≡ 0 + i = omega arith in
      let one : Any P (romfs_found b h.item.offset (0 + i)) =
      subst (λ (v : ℕ). Any P (romfs_found b v (0 + i))) (sym h.is)
      (subst (λ (v : ℕ). Any P (romfs_found b q v)) z (record_adds b q n i d l)) in
      let found : Any P (romfs_all_found b r) = any_right P (found Super 0 r 0 0)
      (found_from (romfs_found b) 0 (romfs_listed b r))
      (subst (λ (v : List Record). Any P (found_from (romfs_found b) 0 v)) (sym k.whole)
      (found_adds P (romfs_found b) 0 i records h.item h.there one)) in
      let f = any_among P (romfs_all_found b r) found in
      let c : Contains e.extents.items f.extent =
      Contains-permutation (romfs_all_found b r) e.extents.items f.extent a.extents.same f.among in
      let items : e.records.items ≡ records = a.records ∙ k.whole in
      let many = ap length items in
      record {
        extent = f.extent;
        among = c;
        kind = f.holds.kind;
        covers = (f.holds.low, f.holds.high);
        byte = f.holds.byte;
        number = i;
        owner = subst (λ (v : ℕ). Contains (owners e f.extent) v) f.holds.owner
            (owner_led e.next.items (length e.records.items) f.extent.owner (omega (arith, many)));
        named = ap (λ (v : List ℕ). path_of v e.records.items i) a.bytes
            ∙ (ap (λ (v : List Record). path_of b v i) items ∙ (path_below b records i h.live ∙ h.name.path));
      }

  root_is : type_of b r ≡ 1 → names tree ≡ named (47 ∷ []) [] tree ∷ names_below
  root_is t = root_names b r list t

  shown_name : (n : Name) (i : IsRecorded (format b) records (leaf b) n) → is_dots (name_of b i.item.offset) ≡ false
      → AreRomfs b r e → (all : List Row) → AreKnown all → (k : ℕ) → k < length (places_of n.node)
      → HasByteOf tree e n k
  shown_name n i s a all known k l =
      let p : ℕ = i.item.offset in
      let q : ℕ = led 8 b p in
      let whose : places_of n.node ≡ (if has_data (type_of b q) then places_at b q else []) =
      ap places_of i.is ∙ node_places b q (entries_at b i.own) in
      let d = data_by b (has_data (type_of b q)) q k (places_of n.node) refl whose l in
      let h = holder all known q d.kind (leads_among all known i.index i.item i.there s d.kind) in
      let other : Name = h.name.name in
      let live = (data_type (type_of b q) d.kind).0 in
      let to : slice_index (places_of n.node) k ≡ end_of b q + k =
      ap (λ (v : List ℕ). slice_index v k) d.is ∙ place_is b q k d.here in
      record {
        other = other;
        among = subst (λ (v : List Name). Contains v other) (sym (root_is known.rooted))
            (contains_more other (named (47 ∷ []) [] tree) names_below h.name.among);
        same = ap ino_of h.name.node
            ∙ (ino_is b (led 8 b q) (entries_at b h.name.own)
            ∙ (led_self 8 b q live
            ∙ sym (ap ino_of i.is ∙ ino_is b q (entries_at b i.own))));
        byte = subst (λ (v : ℕ). HasByte e other.path k v) (sym to) (has_byte_at a all known q k d.kind d.here h);
      }

  -- the name has each of its bytes
  abbrev IsWhole : Name → Type 0
  IsWhole n = (k : ℕ) → k < length (places_of n.node) → HasByteOf tree e n k

  root_whole : type_of b r ≡ 1 → IsWhole (named (47 ∷ []) [] tree)
  root_whole t k l =
      let nothing : places_of tree ≡ [] = node_places b r (entries_at b list)
      ∙ ap (λ (v : ℕ). if has_data v then places_at b r else []) t in
      let m = ap length nothing in
      absurd (omega (arith, l, m))

  all_whole : AreRomfs b r e → (all : List Row) → AreKnown all → StandsAt b (start_of b r) list
      → Everywhere (IsDotLink b) list → entries_depth (entries_at b list) ≤ 64 → HasAllBytesOfNodes tree e
  all_whole a all known s dots deep n c =
      let below : Every IsWhole names_below = every_weaker (IsRecorded (format b) records (leaf b)) IsWhole
      (λ n i. shown_name n i i.shown a all known) names_below (below_recorded s dots deep) in
      kept_in IsWhole (names tree) (subst (Every IsWhole) (sym (root_is known.rooted))
      (in_front IsWhole (named (47 ∷ []) [] tree) names_below (root_whole known.rooted) below)) n c

known_of : (b : List ℕ) (r most deepest : ℕ) (e : Extents) → type_of b r ≡ 1
    → IsTree b r most deepest (romfs_forest b r) → StandsAt b (start_of b r) (grow most_records b (start_of b r))
    → Everywhere (IsDotLink b) (grow most_records b (start_of b r))
    → entries_depth (entries_at b (grow most_records b (start_of b r))) ≤ 64
    → AreKnown b r (grow most_records b (start_of b r)) e (all_rows (references b r) (romfs_forest b r))
unfolding romfs_forest romfs_listed
known_of b r most deepest e kind t s dots deep =
    let g : References = references b r in
    let all : List Row = all_rows g (romfs_forest b r) in
    let own_rows : List Row = rows g (g.own g.top) r r 1 (grow most_records b (list_of b r r)) in
    let after_rows : List Row = rows g (g.after g.top) r r 1 (grow most_records b (following b r r)) in
    let leads : Every (LeadsWell b all) (own_rows ++ after_rows) =
    recursion_from_All (LeadsWell b all) (own_rows ++ after_rows) t.leads in
    let Links : Row → Type 0 = λ y. IsLink b all y.offset in
    let below : Every Links (own_rows ++ after_rows) =
    every_weaker (LeadsWell b all) Links (λ y l. l.link) (own_rows ++ after_rows) leads in
    let first : IsLink b all r = λ d z. absurd (omega (arith, kind, z)) in
    record {
      whole = whole b r;
      rooted = kind;
      each = named_below b r (grow most_records b (start_of b r)) e s dots deep;
      shown = all_shown b r (grow most_records b (start_of b r)) e dots;
      links = subst (Every (λ (x : Record). IsLink b all x.offset)) (whole b r)
          (of_all (IsLink b all) (romfs_entry b) (λ p d. refl) g (romfs_forest b r) (first, below));
      among = λ q h. subst (AnyAt q) (whole b r) (all_rows_listed b q g (romfs_forest b r) h);
    }

pub romfs_complete : (all : List ℕ) (r : ℕ) (e : Extents) (h : HoldsRomfs all r) → AreRomfs (accessible all) r e
    → HasAllBytesOfNodes (tree_of (accessible all) r h.forest) e
unfolding tree_of romfs_forest
romfs_complete all r e h a =
    let b : List ℕ = accessible all in
    let live = above_root b r h.superblock.root in
    let kind = h.superblock.directory in
    let same : romfs_forest b r ≡ h.forest = romfs_is b r h.most h.deepest h.forest live h.whole h.few in
    let t : IsTree b r h.most h.deepest (romfs_forest b r) =
    subst (IsTree b r h.most h.deepest) (sym same) h.whole in
    let list : Forest = grow most_records b (start_of b r) in
    let k = is_list b r (are_known b r h.most h.deepest live (grow most_records b (list_of b r r))
    (grow most_records b (following b r r)) t) in
    let shallow : depth (node_of b r (entries_at b list)) ≤ min h.deepest 64 =
    subst (λ (f : Forest). depth (node_of b r (entries_at b f)) ≤ min h.deepest 64) k.below t.shallow in
    let same_depth = directory_depth b r (entries_at b list) kind in
    let deep : entries_depth (entries_at b list) ≤ 64 = grind (arith, shallow, same_depth) in
    subst (λ (f : Forest). HasAllBytesOfNodes (tree_of b r f) e) same
    (subst (λ (f : Forest). HasAllBytesOfNodes (node_of b r (entries_at b f)) e) (sym k.below)
    (all_whole b r list e a (all_rows (references b r) (romfs_forest b r))
    (known_of b r h.most h.deepest e kind t k.stands k.dots deep) k.stands k.dots deep))
