-- The tree of a romfs image is valid.
use Rattle.std.proofs.Common.{◌≡◌, ◌≢◌, ℕ, zero, suc, ◌+◌, ◌/◌, ◌%◌, ◌<◌, Bool, true, false, ◌||◌, cond, if◌then◌else◌}
use Rattle.std.proofs.Common.{List, [], ◌∷◌, ◌++◌, drop, None, Some, ◌⊎◌, inl, inr, refl, sym, ap, subst, ◌∙◌, arith}
use Rattle.std.proofs.Common.{eq-eqb}
use Rattle.std.specs.Prelude.{◌==◌, ◌^◌}
use Rattle.std.proofs.Math.Nat.{div-le_self, mod-le}
use Rattle.std.proofs.lemmas.Bool.Decides.{eqb_tells}
use Rattle.std.proofs.lemmas.List.Elements.{All-cons, All-drop, All-take, recursion_from_All}
use Rattle.std.proofs.lemmas.List.Folds.{list_any-append}
use Rattle.std.specs.Cmp.Lexicographic.{bytes_decides}
use Rattle.std.specs.List.{AllByRecursion as Every, All, list_any}
use Rattle.std.specs.Str.{bytes_eq}
use Rattle.byteorder.specs.Numbers.{big_from-lt}
use Rattle.rom_fields.specs.Words.{word_be}
use Rattle.record_forest.specs.declared.reference.Reference.{Reference}
use Rattle.record_forest.specs.declared.reference.Row.{Row}
use Rattle.record_forest.specs.Forest.{Forest, none, at, NamesDiffer, all_rows, rows}
use Rattle.record_forest.specs.Members.{Has, Pairs}
use Rattle.record_forest.proofs.Lists.{every_both, every_left, every_right, every_weaker, has_every, has_left}
use Rattle.record_forest.proofs.Lists.{has_right, pairs_cross, pairs_from, pairs_left, pairs_right}
use Rattle.romfs_format.specs.Record.{IsSound, before_zero, name_of, spec_offset_of, type_of}
use Rattle.romfs_format.specs.Refers.{references, reference_offset, heads_itself}
use Rattle.romfs_format.specs.Tree.{IsTree, LeadsWell, RomfsTree, attributes_at, below_root, entries_at, executable}
use Rattle.romfs_format.specs.Tree.{follow, full_size, kind_numbers, led, listed_rows, mode_named, node_of, places_at}
use Rattle.romfs_format.specs.Tree.{root_of, tree_of}
use Rattle.romfs_format.proofs.Bridge.{offset_some, sound_rows, top_offset, offset_none}
use Rattle.romfs_format.proofs.Trees.{led_self}
use Rattle.rom_tree.specs.Dots.{dot, dot_dot, is_dots}
use Rattle.rom_tree.specs.Image.{find_entry}
use Rattle.rom_tree.specs.Kinds.{device_by}
use Rattle.rom_tree.specs.Tree.{Node, Entries, entry, IsCoherent, entries_nodes, is_directory, nodes}
use Rattle.rom_tree.proofs.ByKind.{body_directory_is, by_kind_directory}
use Rattle.rom_tree.proofs.Nodes.{in-split}
use Rattle.image_manifest.specs.Describable.{HasSmallNumbers, IsLawfulList, IsLawfulName, IsLawfulTree}
use Rattle.image_manifest.proofs.Taken.{some_byte}
use Rattle.image_manifest.proofs.Ways.{neither}
use Rattle.headline.proofs.LawfulNodes.{AreLawfulNodes, by_kind_all, good_name, kind_has, kind_nodes, kind_twice}
use Rattle.headline.proofs.LawfulNodes.{no_slash}
use Rattle.headline.proofs.Singles.{NoneTwice, entries_numbers, has_number, numbers_of, one_path, twice_join}

-- A record's attributes are small.

word_small : (b : List ℕ) (p : ℕ) → All (λ c. c < 256) b → word_be b p < 2 ^ 32
unfolding word_be
word_small b p h = big_from-lt 0 4 (drop p b) (λ k. some_byte (drop p b) k (All-drop (λ c. c < 256) p b h))

small_mode : (t : ℕ) (e : Bool) → mode_named t e < 4096
small_mode t e =
    by_kind_all (λ n. n < 4096) kind_numbers t (if e then 493 else 420) (if e then 493 else 420) 511 384 384 420 420
    (chosen e) (chosen e) (omega arith) (omega arith) (omega arith) (omega arith) (omega arith)
  where
    chosen : (e : Bool) → cond e 493 420 < 4096
    chosen true = omega arith
    chosen false = omega arith

small_device : (t n : ℕ) → n < 2 ^ 32 → device_by kind_numbers t n < 2 ^ 32
small_device t n h = by_kind_all (λ k. k < 2 ^ 32) kind_numbers t 0 0 0 n n 0 0 (omega arith) (omega arith)
    (omega arith) h h (omega arith) (omega arith)

small_numbers : (b : List ℕ) (p : ℕ) → All (λ c. c < 256) b → HasSmallNumbers (attributes_at b p)
unfolding attributes_at
small_numbers b p h =
    let w = word_small b (p + 4) h in
    let d = div-le_self (word_be b (p + 4)) 65536 in
    let m = mod-le (word_be b (p + 4)) 65536 in
    record {
      mode = small_mode (type_of b p) (executable b p);
      uid = omega arith;
      gid = omega arith;
      major = small_device (type_of b p) (word_be b (p + 4) / 65536) (omega (arith, w, d));
      minor = small_device (type_of b p) (word_be b (p + 4) % 65536) (omega (arith, w, m));
    }

-- A record's name is valid.

pub front_bytes : (xs : List ℕ) → All (λ c. c < 256) xs → All (λ c. c < 256) (before_zero xs)
front_bytes [] h = h
front_bytes (x ∷ xs) h = elim (x == 0) as (λ t. All (λ c. c < 256) (cond t [] (x ∷ before_zero xs))) [
  | true ↦ λ k d l. absurd (omega (arith, l))
  | false ↦ All-cons (λ c. c < 256) x (before_zero xs) (h 0 0 (omega arith))
      (front_bytes xs (λ k d l. h (suc k) d (omega (arith, l))))
]

pub front_zeros : (xs : List ℕ) → list_any (λ c. c == 0) (before_zero xs) ≡ false
front_zeros [] = refl
front_zeros (x ∷ xs) =
    elim (x == 0) as (λ t. (x == 0) ≡ t → list_any (λ c. c == 0) (cond t [] (x ∷ before_zero xs)) ≡ false) [
      | true ↦ λ e. refl
      | false ↦ λ e. neither (x == 0) (list_any (λ c. c == 0) (before_zero xs)) e (front_zeros xs)
    ] refl

no_dots : (n m : List ℕ) → is_dots n ≡ false → is_dots m ≡ true → n ≡ m → ⊥
no_dots n m h g e = let z : true ≡ false = sym g ∙ ap is_dots (sym e) ∙ h in cc

lawful_name : (b : List ℕ) (r p : ℕ) → All (λ c. c < 256) b → IsSound b r p → is_dots (name_of b p) ≡ false
    → IsLawfulName (name_of b p)
unfolding name_of
lawful_name b r p h s d = record {
  bytes = front_bytes (drop (p + 16) b) (All-drop (λ c. c < 256) (p + 16) b h);
  no_zero = front_zeros (drop (p + 16) b);
  no_slash = no_slash (name_of b p) s.no_slash;
  good = good_name (name_of b p) s.named (no_dots (name_of b p) dot d refl)
      (no_dots (name_of b p) dot_dot d refl) s.name_short;
}

-- The target of a hard link.

led_inner : (n : ℕ) (b : List ℕ) (p : ℕ) → type_of b p ≡ 0 → led (suc n) b p ≡ led n b (spec_offset_of b p)
unfolding led
led_inner zero b p h = rw (eq-eqb (type_of b p) 0 h) refl
led_inner (suc n) b p h = ap (λ (q : ℕ). if type_of b q == 0 then spec_offset_of b q else q) (led_inner n b p h)

follow_led : (n : ℕ) (b : List ℕ) (all : List Row) (p q : ℕ) → follow b all n p ≡ Some q → led n b p ≡ q
unfolding follow led
follow_led zero b all p q e = elim (eqb_tells (type_of b p) 0) [
  | inl h ↦ let z = (rw h.0 at e) in absurd (cc)
  | inr h ↦ let z : Some p ≡ Some q = (rw h.0 at e) in cc
]
follow_led (suc n) b all p q e = elim (eqb_tells (type_of b p) 0) [
  | inl h ↦
      let e' : (if list_any (λ (x : Row). x.offset == spec_offset_of b p) all then follow b all n (spec_offset_of b p)
      else None) ≡ Some q = (rw h.0 at e) in
      elim (list_any (λ (x : Row). x.offset == spec_offset_of b p) all) as
      (λ v. (if v then follow b all n (spec_offset_of b p) else None) ≡ Some q → led (suc n) b p ≡ q) [
        | true ↦ λ z. led_inner n b p h.1 ∙ follow_led n b all (spec_offset_of b p) q z
        | false ↦ λ z. absurd (cc)
      ] e'
  | inr h ↦ let z : Some p ≡ Some q = (rw h.0 at e) in let y : p ≡ q = cc in led_self (suc n) b p h.1 ∙ y
]

-- The known facts of a row below the root: it is valid, and a hard link other than `.` and `..` does not lead to a
-- directory.
record IsFit (b : List ℕ) (r : ℕ) (y : Row) : Type 0 where
  sound : IsSound b r y.offset
  leaf : is_dots (name_of b y.offset) ≡ false → type_of b y.offset ≡ 0 → type_of b (led 8 b y.offset) ≢ 1

fit : (b : List ℕ) (r : ℕ) (all : List Row) (y : Row) → IsSound b r y.offset → LeadsWell b all y → IsFit b r y
fit b r all y s l = record {
  sound = s;
  leaf = λ d t e. let k = l.link d t in k.2 (ap (type_of b) (sym (follow_led 8 b all y.offset k.0 k.1)) ∙ e);
}

-- a directory to which an entry leads is the record of the entry
itself : (b : List ℕ) (r : ℕ) (y : Row) → IsFit b r y → is_dots (name_of b y.offset) ≡ false
    → type_of b (led 8 b y.offset) ≡ 1 → led 8 b y.offset ≡ y.offset
itself b r y f d t = elim (eqb_tells (type_of b y.offset) 0) [
  | inl h ↦ absurd (f.leaf d h.1 t)
  | inr h ↦ led_self 8 b y.offset h.1
]

module _ (b : List ℕ) (r : ℕ) (bytes : All (λ c. c < 256) b) where
  -- no entry of a list has a name that no row of it has
  none_named : (name : List ℕ) (x : Reference) (directory parent depth : ℕ) (f : Forest)
      → Every (λ (y : Row). directory ≡ y.directory → name ≢ name_of b y.offset)
      (rows (references b r) x directory parent depth f)
      → find_entry (entries_at b f) name ≡ None
  none_named name x directory parent depth none h = refl
  none_named name x directory parent depth (at p own after) h =
      let g = references b r in
      let later : Every (λ (y : Row). directory ≡ y.directory → name ≢ name_of b y.offset)
      (rows g (g.after x) directory parent depth after) =
      every_right (λ (y : Row). directory ≡ y.directory → name ≢ name_of b y.offset)
      (rows g (g.own x) p directory (depth + 1) own) (rows g (g.after x) directory parent depth after) h.1 in
      let rest = none_named name (g.after x) directory parent depth after later in
      elim (is_dots (name_of b p)) as (λ v. find_entry
      (if v then entries_at b after else entry (name_of b p) (node_of b (led 8 b p) (entries_at b own))
      (entries_at b after)) name ≡ None) [
        | true ↦ rest
        | false ↦ elim (bytes_eq (name_of b p) name) as
            (λ t. bytes_eq (name_of b p) name ≡ t
            → cond t (Some (node_of b (led 8 b p) (entries_at b own))) (find_entry (entries_at b after) name) ≡ None) [
              | true ↦ λ e. absurd (h.0 refl (sym ((bytes_decides (name_of b p) name).0 e)))
              | false ↦ λ e. rest
            ] refl
      ]

  made_nodes : (q : ℕ) (es : Entries) → IsLawfulList es → AreLawfulNodes (entries_nodes es)
      → AreLawfulNodes (nodes (node_of b q es))
  unfolding node_of
  made_nodes q es l h =
      kind_nodes (attributes_at b q) kind_numbers (type_of b q) (places_at b q) es (small_numbers b q bytes) l h

  -- a list of a tree is valid, and so are those below it
  lawful_list : (x : Reference) (directory parent depth : ℕ) (f : Forest)
      → Every (IsFit b r) (rows (references b r) x directory parent depth f)
      → Pairs (NamesDiffer (name_of b)) (rows (references b r) x directory parent depth f)
      → IsLawfulList (entries_at b f) × AreLawfulNodes (entries_nodes (entries_at b f))
  lawful_list x directory parent depth none h n = (tt, λ y i. elim i [ ])
  lawful_list x directory parent depth (at p own after) h n =
      let g = references b r in
      let own_rows : List Row = rows g (g.own x) p directory (depth + 1) own in
      let after_rows : List Row = rows g (g.after x) directory parent depth after in
      let me : Row = record { offset = p; reference = x; directory = directory; parent = parent; depth = depth } in
      let o = lawful_list (g.own x) p directory (depth + 1) own (every_left (IsFit b r) own_rows after_rows h.1)
      (pairs_left (NamesDiffer (name_of b)) own_rows after_rows n.1) in
      let a = lawful_list (g.after x) directory parent depth after (every_right (IsFit b r) own_rows after_rows h.1)
      (pairs_right (NamesDiffer (name_of b)) own_rows after_rows n.1) in
      let alone = none_named (name_of b p) (g.after x) directory parent depth after
      (every_right (NamesDiffer (name_of b) me) own_rows after_rows n.0) in
      let child : Node = node_of b (led 8 b p) (entries_at b own) in
      elim (is_dots (name_of b p)) as (λ v. is_dots (name_of b p) ≡ v
      → IsLawfulList (if v then entries_at b after else entry (name_of b p) child (entries_at b after))
      × AreLawfulNodes (entries_nodes (if v then entries_at b after
      else entry (name_of b p) child (entries_at b after)))) [
        | true ↦ λ d. a
        | false ↦ λ d. (
          (lawful_name b r p bytes h.0.sound d, alone, a.0),
          λ y i. in-split y (nodes child) (entries_nodes (entries_at b after)) i
              (λ j. made_nodes (led 8 b p) (entries_at b own) o.0 o.1 y j) (λ j. a.1 y j),
        )
      ] refl

-- The numbers of directories are offsets of rows.

pub some_number : (n : ℕ) (xs ys : List ℕ) → has_number n (xs ++ ys) ≡ true
    → (has_number n xs ≡ true) ⊎ (has_number n ys ≡ true)
some_number n xs ys h = by (has_number n xs) (has_number n ys) refl refl (sym (list_any-append (λ k. k == n) xs ys) ∙ h)
  where
    by : (s t : Bool) → has_number n xs ≡ s → has_number n ys ≡ t
        → (list_any (λ k. k == n) xs || list_any (λ k. k == n) ys) ≡ true
        → (has_number n xs ≡ true) ⊎ (has_number n ys ≡ true)
    by true t e f g = inl e
    by false true e f g = inr f
    by false false e f g = let z : (list_any (λ k. k == n) xs || list_any (λ k. k == n) ys) ≡ false =
        rw (e, f) refl in absurd (let w : true ≡ false = sym g ∙ z in cc)

pub first_or : (q n : ℕ) (ns : List ℕ) → has_number n (q ∷ ns) ≡ true → (q ≡ n) ⊎ (has_number n ns ≡ true)
first_or q n ns h =
    elim (eqb_tells q n) [ inl e ↦ inl e.1 | inr e ↦ inr (let z : has_number n ns ≡ true = (rw e.0 at h) in z) ]

pub not_twice : (n : ℕ) (xs : List Row) → Every (λ (y : Row). n ≢ y.offset) xs → Has (λ (y : Row). y.offset ≡ n) xs → ⊥
not_twice n xs h i = let z = has_every (λ (y : Row). n ≢ y.offset) (λ (y : Row). y.offset ≡ n) xs h i in z.1 (sym z.2)

pub none_by : (n : ℕ) (ns : List ℕ) → (has_number n ns ≡ true → ⊥) → has_number n ns ≡ false
none_by n ns h = by (has_number n ns) refl
  where
    by : (t : Bool) → has_number n ns ≡ t → t ≡ false
    by true e = absurd (h e)
    by false e = refl

module _ (b : List ℕ) (r : ℕ) where
  child_has : (p : ℕ) (own : Forest) (n : ℕ)
      → has_number n (numbers_of (node_of b (led 8 b p) (entries_at b own))) ≡ true
      → (type_of b (led 8 b p) ≡ 1) × (has_number n (led 8 b p ∷ entries_numbers (entries_at b own)) ≡ true)
  unfolding node_of attributes_at
  child_has p own n h =
      kind_has n (led 8 b p) kind_numbers (type_of b (led 8 b p)) (places_at b (led 8 b p)) (entries_at b own) h

  child_twice : (p : ℕ) (own : Forest)
      → (type_of b (led 8 b p) ≡ 1 → has_number (led 8 b p) (entries_numbers (entries_at b own)) ≡ false)
      → NoneTwice (entries_numbers (entries_at b own))
      → NoneTwice (numbers_of (node_of b (led 8 b p) (entries_at b own)))
  unfolding node_of attributes_at
  child_twice p own f h =
      kind_twice (led 8 b p) kind_numbers (type_of b (led 8 b p)) (places_at b (led 8 b p)) (entries_at b own) f h

  -- a number below an entry is the entry's own, or is below it
  own_number : (y : Row) (own : Forest) (n : ℕ) → IsFit b r y → is_dots (name_of b y.offset) ≡ false
      → has_number n (numbers_of (node_of b (led 8 b y.offset) (entries_at b own))) ≡ true
      → (y.offset ≡ n) ⊎ (has_number n (entries_numbers (entries_at b own)) ≡ true)
  own_number y own n f d h =
      let c = child_has y.offset own n h in
      elim (first_or (led 8 b y.offset) n (entries_numbers (entries_at b own)) c.1) [
        | inl e ↦ inl (sym (itself b r y f d c.0) ∙ e)
        | inr e ↦ inr e
      ]

  numbers_in : (x : Reference) (directory parent depth : ℕ) (f : Forest)
      → Every (IsFit b r) (rows (references b r) x directory parent depth f) → (n : ℕ)
      → has_number n (entries_numbers (entries_at b f)) ≡ true
      → Has (λ (y : Row). y.offset ≡ n) (rows (references b r) x directory parent depth f)
  numbers_in x directory parent depth none h n i = absurd (cc)
  numbers_in x directory parent depth (at p own after) h n i =
      let g = references b r in
      let own_rows : List Row = rows g (g.own x) p directory (depth + 1) own in
      let after_rows : List Row = rows g (g.after x) directory parent depth after in
      let me : Row = record { offset = p; reference = x; directory = directory; parent = parent; depth = depth } in
      let child : Node = node_of b (led 8 b p) (entries_at b own) in
      let P = λ (y : Row). y.offset ≡ n in
      let behind = λ (j : has_number n (entries_numbers (entries_at b after)) ≡ true). has_right P own_rows after_rows
      (numbers_in (g.after x) directory parent depth after (every_right (IsFit b r) own_rows after_rows h.1) n j) in
      let below = λ (j : has_number n (entries_numbers (entries_at b own)) ≡ true). has_left P own_rows after_rows
      (numbers_in (g.own x) p directory (depth + 1) own (every_left (IsFit b r) own_rows after_rows h.1) n j) in
      elim (is_dots (name_of b p)) as (λ v. is_dots (name_of b p) ≡ v
      → has_number n (entries_numbers (if v then entries_at b after
      else entry (name_of b p) child (entries_at b after))) ≡ true → Has P (me ∷ own_rows ++ after_rows)) [
        | true ↦ λ d j. inr (behind j)
        | false ↦ λ d j. elim (some_number n (numbers_of child) (entries_numbers (entries_at b after)) j) [
          | inl k ↦ elim (own_number me own n h.0 d k) [ inl e ↦ inl e | inr e ↦ inr (below e) ]
          | inr k ↦ inr (behind k)
        ]
      ] refl i

  numbers_once : (x : Reference) (directory parent depth : ℕ) (f : Forest)
      → Every (IsFit b r) (rows (references b r) x directory parent depth f)
      → Pairs (λ (y : Row) (z : Row). y.offset ≢ z.offset) (rows (references b r) x directory parent depth f)
      → NoneTwice (entries_numbers (entries_at b f))
  numbers_once x directory parent depth none h s = tt
  numbers_once x directory parent depth (at p own after) h s =
      let g = references b r in
      let own_rows : List Row = rows g (g.own x) p directory (depth + 1) own in
      let after_rows : List Row = rows g (g.after x) directory parent depth after in
      let me : Row = record { offset = p; reference = x; directory = directory; parent = parent; depth = depth } in
      let child : Node = node_of b (led 8 b p) (entries_at b own) in
      let R = λ (y : Row) (z : Row). y.offset ≢ z.offset in
      let fit_own = every_left (IsFit b r) own_rows after_rows h.1 in
      let fit_after = every_right (IsFit b r) own_rows after_rows h.1 in
      let once_own =
      numbers_once (g.own x) p directory (depth + 1) own fit_own (pairs_left R own_rows after_rows s.1) in
      let once_after =
      numbers_once (g.after x) directory parent depth after fit_after (pairs_right R own_rows after_rows s.1) in
      let in_own = λ (n : ℕ) (i : has_number n (entries_numbers (entries_at b own)) ≡ true). numbers_in
      (g.own x) p directory (depth + 1) own fit_own n i in
      let in_after = λ (n : ℕ) (i : has_number n (entries_numbers (entries_at b after)) ≡ true). numbers_in
      (g.after x) directory parent depth after fit_after n i in
      let cross = pairs_cross R own_rows after_rows s.1 in
      elim (is_dots (name_of b p)) as (λ v. is_dots (name_of b p) ≡ v
      → NoneTwice (entries_numbers (if v then entries_at b after
      else entry (name_of b p) child (entries_at b after)))) [
        | true ↦ λ d. once_after
        | false ↦ λ d. twice_join (numbers_of child) (entries_numbers (entries_at b after))
            (child_twice p own (λ t. let e = itself b r me h.0 d t in
            none_by (led 8 b p) (entries_numbers (entries_at b own))
            (λ i. not_twice p own_rows (every_left (R me) own_rows after_rows s.0)
            (in_own p (ap (λ (v : ℕ). has_number v (entries_numbers (entries_at b own))) (sym e) ∙ i)))) once_own)
            once_after
            (λ n i j. elim (own_number me own n h.0 d i) [
              | inl e ↦ not_twice p after_rows (every_right (R me) own_rows after_rows s.0)
                  (in_after p (ap (λ (v : ℕ). has_number v (entries_numbers (entries_at b after))) e ∙ j))
              | inr e ↦
                  let z = has_every (λ (y : Row). Every (R y) after_rows) (λ (y : Row). y.offset ≡ n) own_rows cross
                  (in_own n e) in
                  not_twice z.0.offset after_rows z.1
                  (in_after z.0.offset (ap (λ (v : ℕ). has_number v (entries_numbers (entries_at b after))) z.2
                  ∙ j))
            ])
      ] refl

-- The whole tree.

record Below (b : List ℕ) (r : ℕ) (es : Entries) : Type 0 where
  list : IsLawfulList es
  nodes : AreLawfulNodes (entries_nodes es)
  once : NoneTwice (entries_numbers es)
  apart : has_number r (entries_numbers es) ≡ false

below_list : (b : List ℕ) (r : ℕ) → All (λ c. c < 256) b → (x : Reference) (p : ℕ) (f : Forest) → p ≡ r
    → Every (IsFit b r) (rows (references b r) x p p 1 f)
    → Pairs (NamesDiffer (name_of b)) (rows (references b r) x p p 1 f)
    → Every (λ (y : Row). p ≢ y.offset) (rows (references b r) x p p 1 f)
    → Pairs (λ (y : Row) (z : Row). y.offset ≢ z.offset) (rows (references b r) x p p 1 f) → Below b r (entries_at b f)
below_list b r bytes x p f same fits names apart single =
    let l = lawful_list b r bytes x p p 1 f fits names in
    record {
      list = l.0;
      nodes = l.1;
      once = numbers_once b r x p p 1 f fits single;
      apart = none_by r (entries_numbers (entries_at b f)) (λ i. not_twice p (rows (references b r) x p p 1 f) apart
          (numbers_in b r x p p 1 f fits p (ap (λ (v : ℕ). has_number v (entries_numbers (entries_at b f))) same ∙ i)));
    }

below_all : (b : List ℕ) (r most deepest : ℕ) (f : Forest) → All (λ c. c < 256) b → r ≢ 0
    → IsTree b r most deepest f → Below b r (entries_at b (below_root b r f))
unfolding listed_rows
below_all b r most deepest none bytes live t =
    absurd (live (sym (top_offset b r) ∙ offset_none (reference_offset b r (references b r).top) t.forest.stands))
below_all b r most deepest (at p own after) bytes live t =
    let g = references b r in
    let all : List Row = all_rows g (at p own after) in
    let own_rows : List Row = rows g (g.own g.top) p p 1 own in
    let after_rows : List Row = rows g (g.after g.top) p p 1 after in
    let below : List Row = own_rows ++ after_rows in
    let R = λ (y : Row) (z : Row). y.offset ≢ z.offset in
    let N = NamesDiffer (name_of b) in
    let same : p ≡ r = (offset_some (reference_offset b r g.top) p t.forest.stands.0).1 ∙ top_offset b r in
    let fits : Every (IsFit b r) below =
    every_weaker (λ (y : Row). IsSound b r y.offset × LeadsWell b all y) (IsFit b r)
    (λ y h. fit b r all y h.0 h.1) below
    (every_both (λ (y : Row). IsSound b r y.offset) (LeadsWell b all) below
    (sound_rows b r most (at p own after) t.forest).1 (recursion_from_All (LeadsWell b all) below t.leads)) in
    let single = pairs_from R all t.forest.single in
    let names : Pairs N below = elim (heads_itself b r) as (λ v. Pairs N (if v then all else below) → Pairs N below) [
      | true ↦ λ h. h.1
      | false ↦ λ h. h
    ] (pairs_from N (listed_rows b r all) t.names) in
    elim (heads_itself b r) as (λ v. Below b r (entries_at b (if v then after else own))) [
      | true ↦ below_list b r bytes (g.after g.top) p after same (every_right (IsFit b r) own_rows after_rows fits)
          (pairs_right N own_rows after_rows names)
          (every_right (λ (y : Row). p ≢ y.offset) own_rows after_rows single.0)
          (pairs_right R own_rows after_rows single.1)
      | false ↦ below_list b r bytes (g.own g.top) p own same (every_left (IsFit b r) own_rows after_rows fits)
          (pairs_left N own_rows after_rows names)
          (every_left (λ (y : Row). p ≢ y.offset) own_rows after_rows single.0)
          (pairs_left R own_rows after_rows single.1)
    ]

root_live : (b : List ℕ) (r : ℕ) → r ≡ root_of b → r ≢ 0
unfolding root_of
root_live b r e = λ z. omega (arith, e, z)

record Whole (t : Node) : Type 0 where
  root : is_directory t ≡ true
  nodes : AreLawfulNodes (nodes t)
  once : NoneTwice (numbers_of t)

whole : (b : List ℕ) (r : ℕ) (es : Entries) → All (λ c. c < 256) b → type_of b r ≡ 1 → Below b r es
    → Whole (node_of b r es)
unfolding node_of attributes_at
whole b r es bytes kind h = record {
  root = body_directory_is kind_numbers (type_of b r) (places_at b r) es
      ∙ by_kind_directory kind_numbers (type_of b r) true false false false false false false kind;
  nodes = made_nodes b r bytes r es h.list h.nodes;
  once = kind_twice r kind_numbers (type_of b r) (places_at b r) es (λ t. h.apart) h.once;
}

tree_whole : (b : List ℕ) (r : ℕ) (f : Forest) → All (λ c. c < 256) b → type_of b r ≡ 1
    → Below b r (entries_at b (below_root b r f)) → Whole (tree_of b r f)
unfolding tree_of
tree_whole b r f bytes kind h = whole b r (entries_at b (below_root b r f)) bytes kind h

-- the tree of a romfs image is valid
pub romfs_lawful : (all : List ℕ) (most deepest : ℕ) (t : Node) → All (λ c. c < 256) all
    → RomfsTree all most deepest t → IsCoherent t → IsLawfulTree t
romfs_lawful all most deepest t h x one =
    let bytes : All (λ c. c < 256) x.b =
    subst (λ (v : List ℕ). All (λ c. c < 256) v) (sym x.super.cut)
    (All-take (λ c. c < 256) (full_size all) all h) in
    let w : Whole t = subst Whole (sym x.same)
    (tree_whole x.b x.r x.forest bytes x.super.directory
    (below_all x.b x.r most deepest x.forest bytes (root_live x.b x.r x.super.root) x.whole)) in
    record {
      root = w.root;
      lists = λ y i. (w.nodes y i).list;
      numbers = λ y i. (w.nodes y i).numbers;
      directories = one_path t one w.once;
    }
