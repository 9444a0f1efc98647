-- The names on the way to a node have no slash, and in one list none occurs twice.
use Rattle.std.proofs.Common.{◌≡◌, ℕ, Bool, true, false, ◌||◌, cond, List, [], ◌∷◌, ◌++◌, Option, None, Some, refl, sym}
use Rattle.std.proofs.Common.{ap, ◌∙◌, append_assoc, append-nil}
use Rattle.std.specs.Cmp.Lexicographic.{bytes_decides}
use Rattle.std.specs.List.{list_any}
use Rattle.std.specs.Option.{option_and_then}
use Rattle.std.specs.Str.{bytes_eq}
use Rattle.manifest.specs.Paths.{path_of}
use Rattle.manifest_tree.specs.Shape.{node_under}
use Rattle.rom_tree.specs.Image.{find_entry}
use Rattle.rom_tree.specs.Names.{Name, node_names, entries_names, path_below}
use Rattle.rom_tree.specs.Tree.{Node, node, directory, regular, symlink, block, character, socket, fifo, Entries}
use Rattle.rom_tree.specs.Tree.{no_entries, entry, entries_of}
use Rattle.image_manifest.specs.ByPaths.{has_slash}
use Rattle.image_manifest.proofs.Ways.{true_is_not_false, Among, first, later, among_either, or_false, neither}
use Rattle.image_manifest.proofs.Ways.{front_none}

-- none of these names has a slash
abbrev pub ArePlain : List Name → Type 0
ArePlain ns = list_any (λ n. has_slash n.last) ns ≡ false

-- the names on the way to a node have none
mutual
  unfolding node_names

  pub plain_under : (path m : List ℕ) (ms : List (List ℕ)) (t x : Node) → ArePlain (node_names path t)
      → node_under (m ∷ ms) t ≡ Some x → list_any has_slash (m ∷ ms) ≡ false
  plain_under path m ms (node a (directory es)) x p h = plain_entries path m ms es x p h
  plain_under path m ms (node a (regular ps)) x p h = absurd (cc)
  plain_under path m ms (node a (symlink ps)) x p h = absurd (cc)
  plain_under path m ms (node a block) x p h = absurd (cc)
  plain_under path m ms (node a character) x p h = absurd (cc)
  plain_under path m ms (node a socket) x p h = absurd (cc)
  plain_under path m ms (node a fifo) x p h = absurd (cc)

  plain_entries : (path m : List ℕ) (ms : List (List ℕ)) (es : Entries) (x : Node)
      → ArePlain (entries_names path es) → option_and_then (λ y. node_under ms y) (find_entry es m) ≡ Some x
      → list_any has_slash (m ∷ ms) ≡ false
  plain_entries path m ms no_entries x p h = absurd (cc)
  plain_entries path m [] (entry name y es) x p h =
      let s = or_false (has_slash name) _ p in
      let r = front_none (λ (n : Name). has_slash n.last) (node_names (path_below path name) y)
      (entries_names path es) s.1 in
      elim (bytes_eq name m) as (λ t. bytes_eq name m ≡ t
      → option_and_then (λ y. node_under [] y) (cond t (Some y) (find_entry es m)) ≡ Some x
      → list_any has_slash (m ∷ []) ≡ false) [
        | true ↦ λ e g. neither (has_slash m) false (ap has_slash (sym ((bytes_decides name m).0 e)) ∙ s.0) refl
        | false ↦ λ e g. plain_entries path m [] es x r.1 g
      ] refl h
  plain_entries path m (k ∷ ks) (entry name y es) x p h =
      let s = or_false (has_slash name) _ p in
      let r = front_none (λ (n : Name). has_slash n.last) (node_names (path_below path name) y)
      (entries_names path es) s.1 in
      elim (bytes_eq name m) as (λ t. bytes_eq name m ≡ t
      → option_and_then (λ y. node_under (k ∷ ks) y) (cond t (Some y) (find_entry es m)) ≡ Some x
      → list_any has_slash (m ∷ k ∷ ks) ≡ false) [
        | true ↦ λ e g. neither (has_slash m) (list_any has_slash (k ∷ ks))
            (ap has_slash (sym ((bytes_decides name m).0 e)) ∙ s.0) (plain_under (path_below path name) k ks y x r.0 g)
        | false ↦ λ e g. plain_entries path m (k ∷ ks) es x r.1 g
      ] refl h

-- some of these names has this path
abbrev pub has_path : List ℕ → List Name → Bool
has_path p ns = list_any (λ n. bytes_eq n.path p) ns

-- no two of them have one path
abbrev pub PathsDiffer : List Name → Type 0
PathsDiffer [] = Unit {0}
PathsDiffer (n ∷ ns) = (has_path n.path ns ≡ false) × PathsDiffer ns

differ_parts : (xs ys : List Name) → PathsDiffer (xs ++ ys) → PathsDiffer xs × PathsDiffer ys
differ_parts [] ys h = (tt, h)
differ_parts (x ∷ xs) ys h =
    let r = differ_parts xs ys h.1 in
    ((((front_none (λ (n : Name). bytes_eq n.path x.path) xs ys h.0).0), r.0), r.1)

-- what is found in a list has its path
found_path : (path m : List ℕ) (es : Entries) (y : Node) → find_entry es m ≡ Some y
    → has_path (path_below path m) (entries_names path es) ≡ true
unfolding node_names
found_path path m no_entries y h = absurd (cc)
found_path path m (entry name x es) y h =
    elim (bytes_eq name m) as (λ t. bytes_eq name m ≡ t → cond t (Some x) (find_entry es m) ≡ Some y
    → has_path (path_below path m) (entries_names path (entry name x es)) ≡ true) [
      | true ↦ λ e g. or_here (bytes_eq (path_below path name) (path_below path m)) _
          ((bytes_decides (path_below path name) (path_below path m)).1
          (ap (path_below path) ((bytes_decides name m).0 e)))
      | false ↦ λ e g. or_there (bytes_eq (path_below path name) (path_below path m)) _
          (in_back (λ (n : Name). bytes_eq n.path (path_below path m)) (node_names (path_below path name) x)
          (entries_names path es) (found_path path m es y g))
    ] refl h
  where
    or_here : (a b : Bool) → a ≡ true → (a || b) ≡ true
    or_here true b e = refl
    or_here false b e = absurd (cc)

    or_there : (a b : Bool) → b ≡ true → (a || b) ≡ true
    or_there true b e = refl
    or_there false b e = e

    in_back : (p : Name → Bool) (xs ys : List Name) → list_any p ys ≡ true → list_any p (xs ++ ys) ≡ true
    in_back p [] ys e = e
    in_back p (x ∷ xs) ys e = or_there (p x) (list_any p (xs ++ ys)) (in_back p xs ys e)

-- A name that is below a path, by the names on the way.
pub record Leads (es : Entries) (above : List ℕ) (n : Name) : Type 0 where
  pub head : List ℕ
  pub more : List (List ℕ)
  pub path : n.path ≡ above ++ path_of (head ∷ more)
  pub plain : list_any has_slash (head ∷ more) ≡ false
  pub node : option_and_then (λ y. node_under more y) (find_entry es head) ≡ Some n.node

pub some_by : (f : Node → Option Node) (o : Option Node) (x : Node) → option_and_then f o ≡ Some x
    → (y : Node) × (o ≡ Some y)
some_by f None x h = absurd (cc)
some_by f (Some y) x h = (y, refl)

-- a name that some entry behind has is not this one
other : (path name m : List ℕ) (es : Entries) (y : Node) → find_entry es m ≡ Some y
    → has_path (path_below path name) (entries_names path es) ≡ false → bytes_eq name m ≡ false
other path name m es y f h = by (bytes_eq name m) refl
  where
    by : (b : Bool) → bytes_eq name m ≡ b → b ≡ false
    by true e = absurd (true_is_not_false (has_path (path_below path name) (entries_names path es))
        (ap (λ (v : List ℕ). has_path (path_below path v) (entries_names path es)) ((bytes_decides name m).0 e)
        ∙ found_path path m es y f) h)
    by false e = refl

mutual
  unfolding node_names

  pub leads : (path : List ℕ) (t : Node) (n : Name) → ArePlain (node_names path t) → PathsDiffer (node_names path t)
      → Among n (node_names path t) → Leads (entries_of t) path n
  leads path (node a (directory es)) n p d h = leads_entries path es n p d h
  leads path (node a (regular ps)) n p d h = elim h [ ]
  leads path (node a (symlink ps)) n p d h = elim h [ ]
  leads path (node a block) n p d h = elim h [ ]
  leads path (node a character) n p d h = elim h [ ]
  leads path (node a socket) n p d h = elim h [ ]
  leads path (node a fifo) n p d h = elim h [ ]

  pub leads_entries : (path : List ℕ) (es : Entries) (n : Name) → ArePlain (entries_names path es)
      → PathsDiffer (entries_names path es) → Among n (entries_names path es) → Leads es path n
  leads_entries path no_entries n p d h = elim h [ ]
  leads_entries path (entry name x es) n p d first =
      let s = or_false (has_slash name) _ p in
      record {
        head = name;
        more = [];
        path = ap (λ (v : List ℕ). path ++ 47 ∷ v) (sym (append-nil name));
        plain = neither (has_slash name) false s.0 refl;
        node = ap (λ (b : Bool). option_and_then (λ y. node_under [] y) (cond b (Some x) (find_entry es name)))
            ((bytes_decides name name).1 refl);
      }
  leads_entries path (entry name x es) n p d (later h) =
      let own : List Name = node_names (path_below path name) x in
      let after : List Name = entries_names path es in
      let s = or_false (has_slash name) _ p in
      let r = front_none (λ (k : Name). has_slash k.last) own after s.1 in
      let q = differ_parts own after d.1 in
      let alone = (front_none (λ (k : Name). bytes_eq k.path (path_below path name)) own after d.0).1 in
      among_either {R = Leads (entry name x es) path n} n own after h
      (λ v. let l = leads (path_below path name) x n r.0 q.0 v in record {
        head = name;
        more = l.head ∷ l.more;
        path = l.path ∙ append_assoc path (47 ∷ name) (path_of (l.head ∷ l.more));
        plain = neither (has_slash name) (list_any has_slash (l.head ∷ l.more)) s.0 l.plain;
        node = ap (λ (b : Bool). option_and_then (λ y. node_under (l.head ∷ l.more) y)
            (cond b (Some x) (find_entry es name))) ((bytes_decides name name).1 refl) ∙ l.node;
      })
      (λ v. let l = leads_entries path es n r.1 q.1 v in
      let found = some_by (λ y. node_under l.more y) (find_entry es l.head) n.node l.node in record {
        head = l.head;
        more = l.more;
        path = l.path;
        plain = l.plain;
        node = ap (λ (b : Bool). option_and_then (λ y. node_under l.more y) (cond b (Some x) (find_entry es l.head)))
            (other path name l.head es found.0 found.1 alone) ∙ l.node;
      })
