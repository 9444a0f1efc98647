-- The tree of a cramfs image is valid.
use Rattle.std.proofs.Common.{◌≡◌, ◌≢◌, ℕ, zero, suc, ◌+◌, ◌*◌, ◌/◌, ◌%◌, ◌<◌, ◌≤◌, true, false, cond, List, [], ◌∷◌}
use Rattle.std.proofs.Common.{◌++◌, length, drop, take, None, Some, inl, inr, refl, sym, ap, subst, ◌∙◌, arith}
use Rattle.std.specs.Prelude.{◌==◌, ◌-◌, ◌^◌}
use Rattle.std.proofs.Math.Nat.{div-le_self, mod-le, mod-lt}
use Rattle.std.proofs.lemmas.List.Elements.{All-cons, All-drop, All-take, recursion_from_All}
use Rattle.std.specs.Cmp.Lexicographic.{bytes_decides}
use Rattle.std.specs.List.{AllByRecursion as Every, All}
use Rattle.std.specs.Str.{bytes_eq}
use Rattle.byteorder.specs.Numbers.{big_from-lt, little_from-lt}
use Rattle.rom_fields.specs.Words.{word_be, word_le}
use Rattle.record_forest.specs.declared.reference.Reference.{Reference}
use Rattle.record_forest.specs.declared.reference.Row.{Row}
use Rattle.record_forest.specs.Forest.{Forest, none, at, NamesDiffer, all_rows, rows}
use Rattle.record_forest.specs.Members.{Has, Pairs}
use Rattle.record_forest.proofs.Lists.{every_both, every_left, every_right, every_weaker, has_every, has_left}
use Rattle.record_forest.proofs.Lists.{has_right, pairs_cross, pairs_from, pairs_left, pairs_right}
use Rattle.cramfs_format.specs.declared.order.Order.{Order}
use Rattle.cramfs_format.specs.declared.order.Order.TheVariants.{Little, Big}
use Rattle.cramfs_format.specs.Order.{field_after, first_field, word}
use Rattle.cramfs_format.specs.Inode.{IsName, before_rest, gid_of, mode_of, name_of, name_room, size_of, type_of}
use Rattle.cramfs_format.specs.Inode.{uid_of, without_zeros}
use Rattle.cramfs_format.specs.Refers.{references, root_place}
use Rattle.cramfs_format.specs.Superblock.{accessible_size}
use Rattle.cramfs_format.specs.Tree.{CramfsTree, IsNoDot, IsTree, attributes_at, below_root, entries_at, kind_numbers}
use Rattle.cramfs_format.specs.Tree.{node_of, places_at, tree_of}
use Rattle.cramfs_format.proofs.Bridge.{IsFine, fine_which, rows_fine}
use Rattle.cramfs_format.proofs.Lawful.{IsPlaced, at_top, in_chain, reached_placed, top_target}
use Rattle.cramfs_format.proofs.Shifts.{upper_below}
use Rattle.rom_tree.specs.Dots.{dot, dot_dot}
use Rattle.rom_tree.specs.Image.{find_entry}
use Rattle.rom_tree.specs.Kinds.{device_by}
use Rattle.rom_tree.specs.Tree.{Node, Entries, IsCoherent, entries_nodes, is_directory, nodes}
use Rattle.rom_tree.proofs.ByKind.{body_directory_is, by_kind_directory}
use Rattle.rom_tree.proofs.Nodes.{in-split}
use Rattle.image_manifest.specs.Describable.{HasSmallNumbers, IsLawfulList, IsLawfulName, IsLawfulTree}
use Rattle.image_manifest.proofs.Taken.{some_byte}
use Rattle.headline.proofs.LawfulNodes.{AreLawfulNodes, by_kind_all, good_name, kind_has, kind_nodes, kind_twice}
use Rattle.headline.proofs.LawfulNodes.{no_slash, no_zero}
use Rattle.headline.proofs.OfRomfs.{first_or, none_by, not_twice, some_number}
use Rattle.headline.proofs.Singles.{NoneTwice, entries_numbers, has_number, numbers_of, one_path, twice_join}

-- An inode's attributes are small.

word_small : (o : Order) (b : List ℕ) (p : ℕ) → All (λ c. c < 256) b → word o b p < 2 ^ 32
unfolding word word_be word_le
word_small Little b p h = little_from-lt 0 4 (drop p b) (λ k. some_byte (drop p b) k (All-drop (λ c. c < 256) p b h))
word_small Big b p h = big_from-lt 0 4 (drop p b) (λ k. some_byte (drop p b) k (All-drop (λ c. c < 256) p b h))

first_within : (o : Order) (bits w : ℕ) → first_field o bits w ≤ w
first_within Little bits w = mod-le w (2 ^ bits)
first_within Big bits w = div-le_self w (2 ^ (32 - bits))

after_within : (o : Order) (bits w : ℕ) → field_after o bits w ≤ w
after_within Little bits w = div-le_self w (2 ^ bits)
after_within Big bits w = mod-le w (2 ^ (32 - bits))

small_device : (t n : ℕ) → n < 2 ^ 32 → device_by kind_numbers t n < 2 ^ 32
small_device t n h = by_kind_all (λ k. k < 2 ^ 32) kind_numbers t 0 0 0 n n 0 0 (omega arith) (omega arith)
    (omega arith) h h (omega arith) (omega arith)

small_numbers : (o : Order) (b : List ℕ) (p : ℕ) → All (λ c. c < 256) b → HasSmallNumbers (attributes_at o b p)
unfolding attributes_at uid_of gid_of size_of
small_numbers o b p h =
    let v = word_small o b p h in
    let w = word_small o b (p + 4) h in
    let size = first_within o 24 (word o b (p + 4)) in
    let uid = after_within o 16 (word o b p) in
    let gid = after_within o 24 (word o b (p + 4)) in
    let d = div-le_self (first_field o 24 (word o b (p + 4))) 256 in
    let m = mod-le (first_field o 24 (word o b (p + 4))) 256 in
    record {
      mode = mod-lt (mode_of o b p) (omega arith);
      uid = omega (arith, v, uid);
      gid = omega (arith, w, gid);
      major = small_device (type_of o b p) (first_field o 24 (word o b (p + 4)) / 256) (omega (arith, w, size, d));
      minor = small_device (type_of o b p) (first_field o 24 (word o b (p + 4)) % 256) (omega (arith, w, size, m));
    }

-- An entry's name is valid.

rest_bytes : (x : ℕ) (ys : List ℕ) → x < 256 → All (λ c. c < 256) ys → All (λ c. c < 256) (before_rest x ys)
rest_bytes x [] h k = elim (x == 0) as (λ t. All (λ c. c < 256) (cond t [] (x ∷ []))) [
  | true ↦ k
  | false ↦ All-cons (λ c. c < 256) x [] h k
]
rest_bytes x (y ∷ ys) h k = All-cons (λ c. c < 256) x (y ∷ ys) h k

name_bytes : (xs : List ℕ) → All (λ c. c < 256) xs → All (λ c. c < 256) (without_zeros xs)
name_bytes [] h = h
name_bytes (x ∷ xs) h =
    rest_bytes x (without_zeros xs) (h 0 0 (omega arith)) (name_bytes xs (λ k d l. h (suc k) d (omega (arith, l))))

rest_length : (x : ℕ) (ys : List ℕ) → length (before_rest x ys) ≤ suc (length ys)
rest_length x [] = elim (x == 0) as (λ t. length (cond t [] (x ∷ [])) ≤ 1) [
  | true ↦ omega arith
  | false ↦ omega arith
]
rest_length x (y ∷ ys) = omega arith

name_length : (xs : List ℕ) → length (without_zeros xs) ≤ length xs
name_length [] = omega arith
name_length (x ∷ xs) = omega (arith, rest_length x (without_zeros xs), name_length xs)

small_room : (o : Order) (w : ℕ) → w < 2 ^ 32 → first_field o 6 w < 64
small_room Little w h = mod-lt w (omega arith)
small_room Big w h = upper_below w 6 (omega arith) h

taken_length : (n : ℕ) (xs : List ℕ) → length (take n xs) ≤ n
taken_length zero xs = omega arith
taken_length (suc n) [] = omega arith
taken_length (suc n) (x ∷ xs) = omega (arith, taken_length n xs)

short_name : (o : Order) (b : List ℕ) (p : ℕ) → All (λ c. c < 256) b → length (name_of o b p) < 256
unfolding name_of name_room
short_name o b p h =
    let room = first_field o 6 (word o b (p + 8)) * 4 in
    omega (
      arith,
      small_room o (word o b (p + 8)) (word_small o b (p + 8) h),
      taken_length room (drop (p + 12) b),
      name_length (take room (drop (p + 12) b)),
    )

lawful_name : (o : Order) (b : List ℕ) (p : ℕ) → All (λ c. c < 256) b → IsName (name_of o b p) → name_of o b p ≢ dot
    → name_of o b p ≢ dot_dot → IsLawfulName (name_of o b p)
unfolding name_of
lawful_name o b p h s d e = record {
  bytes = name_bytes (take (name_room o b p) (drop (p + 12) b))
      (All-take (λ c. c < 256) (name_room o b p) (drop (p + 12) b) (All-drop (λ c. c < 256) (p + 12) b h));
  no_zero = no_zero (name_of o b p) s.no_zero;
  no_slash = no_slash (name_of o b p) s.no_slash;
  good = good_name (name_of o b p) s.some d e (short_name o b p h);
}

-- The known facts of a row below the root: its name is valid, and neither `.` nor `..`.
record IsFit (o : Order) (b : List ℕ) (y : Row) : Type 0 where
  name : IsName (name_of o b y.offset)
  no_dot : IsNoDot o b y

fit : (o : Order) (b : List ℕ) (y : Row) → IsFine o b y → root_place ≢ y.offset → IsNoDot o b y → IsFit o b y
fit o b y f n d = record { name = named (reached_placed y.reference f.reached); no_dot = d }
  where
    named : IsPlaced o b y.reference → IsName (name_of o b y.offset)
    named (at_top i j) = absurd (n (sym j ∙ fine_which y f))
    named (in_chain m i j k l inside) =
        subst (λ (q : ℕ). IsName (name_of o b q)) (fine_which y f) (f.sound.entry i).name

module _ (o : Order) (b : List ℕ) (bytes : All (λ c. c < 256) b) where
  -- no entry of a list has a name that no row of it has
  none_named : (name : List ℕ) (x : Reference) (directory parent depth : ℕ) (f : Forest)
      → Every (λ (y : Row). directory ≡ y.directory → name ≢ name_of o b y.offset)
      (rows (references o b) x directory parent depth f)
      → find_entry (entries_at o b f) name ≡ None
  none_named name x directory parent depth none h = refl
  none_named name x directory parent depth (at p own after) h =
      let g = references o b in
      let later : Every (λ (y : Row). directory ≡ y.directory → name ≢ name_of o b y.offset)
      (rows g (g.after x) directory parent depth after) =
      every_right (λ (y : Row). directory ≡ y.directory → name ≢ name_of o b y.offset)
      (rows g (g.own x) p directory (depth + 1) own) (rows g (g.after x) directory parent depth after) h.1 in
      elim (bytes_eq (name_of o b p) name) as
      (λ t. bytes_eq (name_of o b p) name ≡ t
      → cond t (Some (node_of o b p (entries_at o b own))) (find_entry (entries_at o b after) name) ≡ None) [
        | true ↦ λ e. absurd (h.0 refl (sym ((bytes_decides (name_of o b p) name).0 e)))
        | false ↦ λ e. none_named name (g.after x) directory parent depth after later
      ] refl

  made_nodes : (q : ℕ) (es : Entries) → IsLawfulList es → AreLawfulNodes (entries_nodes es)
      → AreLawfulNodes (nodes (node_of o b q es))
  unfolding node_of
  made_nodes q es l h =
      kind_nodes (attributes_at o b q) kind_numbers (type_of o b q) (places_at o b q) es (small_numbers o b q bytes) l h

  -- a list of a tree is valid, and so are those below it
  lawful_list : (x : Reference) (directory parent depth : ℕ) (f : Forest)
      → Every (IsFit o b) (rows (references o b) x directory parent depth f)
      → Pairs (NamesDiffer (name_of o b)) (rows (references o b) x directory parent depth f)
      → IsLawfulList (entries_at o b f) × AreLawfulNodes (entries_nodes (entries_at o b f))
  lawful_list x directory parent depth none h n = (tt, λ y i. elim i [ ])
  lawful_list x directory parent depth (at p own after) h n =
      let g = references o b in
      let own_rows : List Row = rows g (g.own x) p directory (depth + 1) own in
      let after_rows : List Row = rows g (g.after x) directory parent depth after in
      let me : Row = record { offset = p; reference = x; directory = directory; parent = parent; depth = depth } in
      let i = lawful_list (g.own x) p directory (depth + 1) own (every_left (IsFit o b) own_rows after_rows h.1)
      (pairs_left (NamesDiffer (name_of o b)) own_rows after_rows n.1) in
      let a = lawful_list (g.after x) directory parent depth after (every_right (IsFit o b) own_rows after_rows h.1)
      (pairs_right (NamesDiffer (name_of o b)) own_rows after_rows n.1) in
      let alone = none_named (name_of o b p) (g.after x) directory parent depth after
      (every_right (NamesDiffer (name_of o b) me) own_rows after_rows n.0) in
      let child : Node = node_of o b p (entries_at o b own) in (
        (lawful_name o b p bytes h.0.name h.0.no_dot.here h.0.no_dot.above, alone, a.0),
        λ y j. in-split y (nodes child) (entries_nodes (entries_at o b after)) j
            (λ k. made_nodes p (entries_at o b own) i.0 i.1 y k) (λ k. a.1 y k),
      )

-- The numbers of directories are offsets of rows.

module _ (o : Order) (b : List ℕ) where
  child_has : (p : ℕ) (own : Forest) (n : ℕ) → has_number n (numbers_of (node_of o b p (entries_at o b own))) ≡ true
      → has_number n (p ∷ entries_numbers (entries_at o b own)) ≡ true
  unfolding node_of attributes_at
  child_has p own n h = (kind_has n p kind_numbers (type_of o b p) (places_at o b p) (entries_at o b own) h).1

  child_twice : (p : ℕ) (own : Forest) → has_number p (entries_numbers (entries_at o b own)) ≡ false
      → NoneTwice (entries_numbers (entries_at o b own)) → NoneTwice (numbers_of (node_of o b p (entries_at o b own)))
  unfolding node_of attributes_at
  child_twice p own f h = kind_twice p kind_numbers (type_of o b p) (places_at o b p) (entries_at o b own) (λ t. f) h

  numbers_in : (x : Reference) (directory parent depth : ℕ) (f : Forest) (n : ℕ)
      → has_number n (entries_numbers (entries_at o b f)) ≡ true
      → Has (λ (y : Row). y.offset ≡ n) (rows (references o b) x directory parent depth f)
  numbers_in x directory parent depth none n i = absurd (cc)
  numbers_in x directory parent depth (at p own after) n i =
      let g = references o b in
      let own_rows : List Row = rows g (g.own x) p directory (depth + 1) own in
      let after_rows : List Row = rows g (g.after x) directory parent depth after in
      let P = λ (y : Row). y.offset ≡ n in
      elim (some_number n (numbers_of (node_of o b p (entries_at o b own))) (entries_numbers (entries_at o b after)) i) [
        | inl k ↦ elim (first_or p n (entries_numbers (entries_at o b own)) (child_has p own n k)) [
          | inl e ↦ inl e
          | inr e ↦ inr (has_left P own_rows after_rows (numbers_in (g.own x) p directory (depth + 1) own n e))
        ]
        | inr k ↦ inr (has_right P own_rows after_rows (numbers_in (g.after x) directory parent depth after n k))
      ]

  numbers_once : (x : Reference) (directory parent depth : ℕ) (f : Forest)
      → Pairs (λ (y : Row) (z : Row). y.offset ≢ z.offset) (rows (references o b) x directory parent depth f)
      → NoneTwice (entries_numbers (entries_at o b f))
  numbers_once x directory parent depth none s = tt
  numbers_once x directory parent depth (at p own after) s =
      let g = references o b in
      let own_rows : List Row = rows g (g.own x) p directory (depth + 1) own in
      let after_rows : List Row = rows g (g.after x) directory parent depth after in
      let me : Row = record { offset = p; reference = x; directory = directory; parent = parent; depth = depth } in
      let child : Node = node_of o b p (entries_at o b own) in
      let R = λ (y : Row) (z : Row). y.offset ≢ z.offset in
      let in_own = λ (n : ℕ) (i : has_number n (entries_numbers (entries_at o b own)) ≡ true). numbers_in
      (g.own x) p directory (depth + 1) own n i in
      let in_after = λ (n : ℕ) (i : has_number n (entries_numbers (entries_at o b after)) ≡ true). numbers_in
      (g.after x) directory parent depth after n i in
      let cross = pairs_cross R own_rows after_rows s.1 in
      twice_join (numbers_of child) (entries_numbers (entries_at o b after))
      (child_twice p own (none_by p (entries_numbers (entries_at o b own))
      (λ i. not_twice p own_rows (every_left (R me) own_rows after_rows s.0) (in_own p i)))
      (numbers_once (g.own x) p directory (depth + 1) own (pairs_left R own_rows after_rows s.1)))
      (numbers_once (g.after x) directory parent depth after (pairs_right R own_rows after_rows s.1))
      (λ n i j. elim (first_or p n (entries_numbers (entries_at o b own)) (child_has p own n i)) [
        | inl e ↦ not_twice p after_rows (every_right (R me) own_rows after_rows s.0)
            (in_after p (ap (λ (v : ℕ). has_number v (entries_numbers (entries_at o b after))) e ∙ j))
        | inr e ↦
            let z = has_every (λ (y : Row). Every (R y) after_rows) (λ (y : Row). y.offset ≡ n) own_rows cross
            (in_own n e) in
            not_twice z.0.offset after_rows z.1
            (in_after z.0.offset (ap (λ (v : ℕ). has_number v (entries_numbers (entries_at o b after))) z.2 ∙ j))
      ])

-- The whole tree.

record Below (o : Order) (b : List ℕ) (es : Entries) : Type 0 where
  list : IsLawfulList es
  nodes : AreLawfulNodes (entries_nodes es)
  once : NoneTwice (entries_numbers es)
  apart : has_number root_place (entries_numbers es) ≡ false

below_all : (o : Order) (b : List ℕ) (most deepest : ℕ) (f : Forest) → All (λ c. c < 256) b
    → IsTree o b most deepest f → Below o b (entries_at o b (below_root f))
below_all o b most deepest none bytes t = record { list = tt; nodes = λ y i. elim i [ ]; once = tt; apart = refl }
below_all o b most deepest (at p own after) bytes t =
    let g = references o b in
    let all : List Row = all_rows g (at p own after) in
    let own_rows : List Row = rows g (g.own g.top) p p 1 own in
    let after_rows : List Row = rows g (g.after g.top) p p 1 after in
    let below : List Row = own_rows ++ after_rows in
    let R = λ (y : Row) (z : Row). y.offset ≢ z.offset in
    let N = NamesDiffer (name_of o b) in
    let z : Some p ≡ Some root_place = sym t.forest.stands.0 ∙ top_target o b in
    let same : p ≡ root_place = cc in
    let single = pairs_from R all t.forest.single in
    let dots : Every (IsNoDot o b) below = recursion_from_All (IsNoDot o b) below t.no_dots in
    let fits : Every (IsFit o b) below =
    every_weaker (λ (y : Row). IsFine o b y × ((p ≢ y.offset) × IsNoDot o b y)) (IsFit o b)
    (λ y h. fit o b y h.0 (λ e. h.1.0 (same ∙ e)) h.1.1) below
    (every_both (IsFine o b) (λ (y : Row). (p ≢ y.offset) × IsNoDot o b y) below
    (rows_fine o b most (at p own after) t.forest).1
    (every_both (λ (y : Row). p ≢ y.offset) (IsNoDot o b) below single.0 dots)) in
    let l = lawful_list o b bytes (g.own g.top) p p 1 own (every_left (IsFit o b) own_rows after_rows fits)
    (pairs_left N own_rows after_rows (pairs_from N below t.names)) in
    record {
      list = l.0;
      nodes = l.1;
      once = numbers_once o b (g.own g.top) p p 1 own (pairs_left R own_rows after_rows single.1);
      apart = none_by root_place (entries_numbers (entries_at o b own))
          (λ i. not_twice p own_rows (every_left (λ (y : Row). p ≢ y.offset) own_rows after_rows single.0)
          (numbers_in o b (g.own g.top) p p 1 own p
          (ap (λ (v : ℕ). has_number v (entries_numbers (entries_at o b own))) same ∙ i)));
    }

record Whole (t : Node) : Type 0 where
  root : is_directory t ≡ true
  nodes : AreLawfulNodes (nodes t)
  once : NoneTwice (numbers_of t)

whole : (o : Order) (b : List ℕ) (es : Entries) → All (λ c. c < 256) b → type_of o b root_place ≡ 4 → Below o b es
    → Whole (node_of o b root_place es)
unfolding node_of attributes_at
whole o b es bytes kind h = record {
  root = body_directory_is kind_numbers (type_of o b root_place) (places_at o b root_place) es
      ∙ by_kind_directory kind_numbers (type_of o b root_place) true false false false false false false kind;
  nodes = made_nodes o b bytes root_place es h.list h.nodes;
  once = kind_twice root_place kind_numbers (type_of o b root_place) (places_at o b root_place) es
      (λ t. h.apart) h.once;
}

tree_whole : (o : Order) (b : List ℕ) (f : Forest) → All (λ c. c < 256) b → type_of o b root_place ≡ 4
    → Below o b (entries_at o b (below_root f)) → Whole (tree_of o b f)
unfolding tree_of
tree_whole o b f bytes kind h = whole o b (entries_at o b (below_root f)) bytes kind h

-- the tree of a cramfs image is valid
pub cramfs_lawful : (o : Order) (all : List ℕ) (most deepest : ℕ) (t : Node) → All (λ c. c < 256) all
    → CramfsTree o all most deepest t → IsCoherent t → IsLawfulTree t
cramfs_lawful o all most deepest t h x one =
    let bytes : All (λ c. c < 256) x.b =
    subst (λ (v : List ℕ). All (λ c. c < 256) v) (sym x.super.cut)
    (All-take (λ c. c < 256) (accessible_size o all) all h) in
    let w : Whole t = subst Whole (sym x.same)
    (tree_whole o x.b x.forest bytes x.super.root.directory
    (below_all o x.b most deepest x.forest bytes x.whole)) in
    record {
      root = w.root;
      lists = λ y i. (w.nodes y i).list;
      numbers = λ y i. (w.nodes y i).numbers;
      directories = one_path t one w.once;
    }
