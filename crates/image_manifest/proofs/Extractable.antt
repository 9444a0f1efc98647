-- The names of an image with a lawful tree can be extracted.
use Rattle.std.proofs.Common.{◌≡◌, ◌≢◌, ℕ, zero, suc, ◌<◌, Bool, true, false, cond, List, [], ◌∷◌, ◌++◌, length, take}
use Rattle.std.proofs.Common.{get_or}
use Rattle.std.proofs.Common.{Option, Some, None, refl, sym, ap, subst, ◌∙◌, arith, length-take-le}
use Rattle.std.proofs.Common.{map}
use Rattle.std.proofs.lemmas.List.{get_or-map, get_or-take, length-map, take-take}
use Rattle.std.proofs.lemmas.Map.Keys.{IsDistinct-from_apart}
use Rattle.std.specs.Cmp.Lexicographic.{bytes_decides}
use Rattle.std.specs.Prelude.{◌==◌}
use Rattle.std.specs.List.{list_any, IsDistinct}
use Rattle.std.specs.Str.{bytes_eq}
use Rattle.std.proofs.lemmas.Bool.{eq-eqb, false_from_ne_true}
use Rattle.manifest.specs.Paths.{path_of as names_path, is_bad_name}
use Rattle.manifest_tree.specs.Shape.{node_under}
use Rattle.rom_tree.specs.declared.types.Kind.TheVariants as node_kind
use Rattle.rom_tree.specs.Image.{Image, find_entry}
use Rattle.rom_tree.specs.Names.{Name, names, node_names}
use Rattle.rom_tree.specs.Tree.{Node, node, directory, regular, symlink, block, character, socket, fifo, entries_of}
use Rattle.rom_tree.specs.Tree.{nodes}
use Rattle.rom_tree.specs.Tree.{ino_of, kind_of, is_directory, IsIn}
use Rattle.image_manifest.specs.ByPaths.{has_slash}
use Rattle.image_manifest.specs.Describable.{IsLawfulName, IsLawfulTree}
use Rattle.image_manifest.specs.Members.{first_behind, place_of}
use Rattle.image_manifest.proofs.Lawful.{AreLawful, AreSound, sound_node, plain_names, differ_node}
use Rattle.image_manifest.proofs.Plain.{ArePlain, PathsDiffer, Leads, leads}
use Rattle.image_manifest.proofs.Ways.{or_false}
use Rattle.image_manifest.specs.declared.giving.Giving.{Giving}
use Rattle.image_manifest.specs.ExtractedMembers.{file_by, made_of, member_behind, members_in, root_of}
use Rattle.image_manifest.proofs.Indexed.{length-members, member_is, first_place}
use Rattle.image_manifest.proofs.Known.{node_in, root_in, root_nothing}
use Rattle.image_manifest.proofs.Apart.{among_at, differ_at, longer, nothing_below}
use Rattle.tree_extract.specs.Members.{Member, AreMembers, member_at, kind_at, path_at}
use Rattle.tree_extract.specs.Paths.{Each, IsName, IsPlain, LeadsThrough, path_of}
use Rattle.tree_extract.specs.declared.tree.Kind.TheVariants.{File, Further, Symlink, Nothing}

true_false : (b : Bool) → b ≡ true → b ≡ false → ⊥
true_false b h g = cc

-- ---- names and paths

bytes_of : (n : List ℕ) → has_slash n ≡ false → list_any (λ b. b == 0) n ≡ false → Each (λ b. (b ≢ 47) × (b ≢ 0)) n
bytes_of [] s z = tt
bytes_of (b ∷ bs) s z =
    let t = or_false (b == 47) (has_slash bs) s in
    let y = or_false (b == 0) (list_any (λ c. c == 0) bs) z in (
      (λ is. true_false (b == 47) (eq-eqb b 47 is) t.0, λ is. true_false (b == 0) (eq-eqb b 0 is) y.0),
      bytes_of bs t.1 y.1,
    )

is_name : (n : List ℕ) → IsLawfulName n → IsName n
unfolding is_bad_name
is_name n lawful = record {
  some = λ is. true_false (is_bad_name n) (ap is_bad_name is) lawful.good;
  no_dot = λ is. true_false (is_bad_name n) (ap is_bad_name is) lawful.good;
  no_dots = λ is. true_false (is_bad_name n) (ap is_bad_name is) lawful.good;
  bytes = bytes_of n lawful.no_slash lawful.no_zero;
}

same_path : (ns : List (List ℕ)) → names_path ns ≡ path_of ns
same_path [] = refl
same_path (n ∷ ns) = ap (λ (v : List ℕ). 47 ∷ (n ++ v)) (same_path ns)

are_names : (way : List (List ℕ)) (n : List ℕ) → AreLawful way → IsLawfulName n → Each IsName (way ++ n ∷ [])
are_names [] n w l = (is_name n l, tt)
are_names (k ∷ way) n w l = (is_name k w.0, are_names way n w.1 l)

plain_path : (way : List (List ℕ)) (n path : List ℕ) → AreLawful way → IsLawfulName n
    → path ≡ names_path (way ++ n ∷ []) → IsPlain path
plain_path [] n path w l is = record {
  first = n;
  others = [];
  is = is ∙ same_path (n ∷ []);
  first_name = is_name n l;
  other_names = tt;
}
plain_path (k ∷ way) n path w l is = record {
  first = k;
  others = way ++ n ∷ [];
  is = is ∙ same_path (k ∷ way ++ n ∷ []);
  first_name = is_name k w.0;
  other_names = are_names way n w.1 l;
}

sound_path : (before ns : List Name) (i : ℕ) (e : Name) → AreSound before ns → i < length ns
    → IsPlain (get_or ns i e).path
sound_path before [] i e sound h = absurd (omega (arith, h))
sound_path before (n ∷ ns) zero e sound h =
    plain_path sound.0.way n.last n.path sound.0.lawful sound.0.last sound.0.path
sound_path before (n ∷ ns) (suc i) e sound h = sound_path (before ++ n ∷ []) ns i e sound.1 (omega (arith, h))

front_is : (a : List ℕ) (b : List ℕ) → [] ≡ a ++ b → [] ≡ a
front_is [] b is = refl
front_is (x ∷ a) b is = absurd (cc)

rest_is : (xs ys : List ℕ) → 47 ∷ xs ≡ 47 ∷ ys → xs ≡ ys
rest_is xs ys is = cc

-- the root's path is no other one, and leads through no other
not_root : (p : List ℕ) → IsPlain p → 47 ∷ [] ≡ p → ⊥
not_root p plain is =
    plain.first_name.some (sym (front_is plain.first (path_of plain.others)
    (rest_is [] (plain.first ++ path_of plain.others) (is ∙ plain.is))))

not_through : (p : List ℕ) → IsPlain p → LeadsThrough p (47 ∷ []) → ⊥
not_through p plain leads =
    none (plain.first ++ path_of plain.others) leads.0
    (rest_is [] ((plain.first ++ path_of plain.others) ++ 47 ∷ leads.0)
    (leads.1 ∙ ap (λ (v : List ℕ). v ++ 47 ∷ leads.0) plain.is))
  where
    none : (q rest : List ℕ) → [] ≡ q ++ 47 ∷ rest → ⊥
    none [] rest is = cc
    none (x ∷ q) rest is = cc

-- ---- what is made

link_entries : (x : Node) (first : Option ℕ) (k : List ℕ) → made_of (kind_of x) first ≡ Symlink
    → find_entry (entries_of x) k ≡ None
link_entries (node a (directory es)) first k is = absurd (cc)
link_entries (node a (regular ps)) None k is = absurd (cc)
link_entries (node a (regular ps)) (Some i) k is = absurd (cc)
link_entries (node a (symlink ps)) first k is = refl
link_entries (node a block) first k is = absurd (cc)
link_entries (node a character) first k is = absurd (cc)
link_entries (node a socket) first k is = absurd (cc)
link_entries (node a fifo) first k is = absurd (cc)

-- a further name of a regular file
record IsFurther (x : Node) (o : Option ℕ) (i : ℕ) : Type 0 where
  regular_is : kind_of x ≡ node_kind.Regular
  no_directory : is_directory x ≡ false
  first_is : o ≡ Some i

further_by : (o : Option ℕ) (i : ℕ) → file_by o ≡ Further i → o ≡ Some i
further_by None i is = absurd (cc)
further_by (Some k) i is = ap Some (same k i is)
  where
    same : (k i : ℕ) → Further k ≡ Further i → k ≡ i
    same k i is = cc

is_further : (x : Node) (o : Option ℕ) (i : ℕ) → made_of (kind_of x) o ≡ Further i → IsFurther x o i
is_further (node a (directory es)) o i is = absurd (cc)
is_further (node a (regular ps)) o i is =
    record { regular_is = refl; no_directory = refl; first_is = further_by o i is }
is_further (node a (symlink ps)) o i is = absurd (cc)
is_further (node a block) o i is = absurd (cc)
is_further (node a character) o i is = absurd (cc)
is_further (node a socket) o i is = absurd (cc)
is_further (node a fifo) o i is = absurd (cc)

-- ---- all of an image

module _ (g : Giving) (m : Image) (lawful : IsLawfulTree m.tree) where
  sound : AreSound [] (node_names [] m.tree)
  sound = sound_node [] [] m.tree (λ d. refl) tt lawful.lists

  plain_all : ArePlain (node_names [] m.tree)
  plain_all = plain_names [] (node_names [] m.tree) sound

  differ : PathsDiffer (node_names [] m.tree)
  differ = differ_node [] m.tree plain_all lawful.lists

  -- the name behind the root's at an index
  abbrev at : ℕ → Name
  at k = get_or (node_names [] m.tree) k (root_of m)

  abbrev before : ℕ → List Name
  before k = root_of m ∷ take k (node_names [] m.tree)

  within : (k : ℕ) → suc k < length (members_in g m) → k < length (node_names [] m.tree)
  unfolding members_in
  within k h = omega (arith, h, length-members g m (root_of m ∷ []) (node_names [] m.tree))

  member : (k : ℕ) → k < length (node_names [] m.tree)
      → member_at (members_in g m) (suc k) ≡ member_behind g m (before k) (at k)
  unfolding members_in
  member k h = member_is g m (root_of m ∷ []) (node_names [] m.tree) k (root_of m) h

  path_is : (k : ℕ) → k < length (node_names [] m.tree) → path_at (members_in g m) (suc k) ≡ (at k).path
  path_is k h = ap (λ (x : Member). x.path) (member k h)

  kind_is : (k : ℕ) → k < length (node_names [] m.tree)
      → kind_at (members_in g m) (suc k) ≡ made_of (kind_of (at k).node) (first_behind (before k) (at k).node)
  kind_is k h = ap (λ (x : Member). x.kind) (member k h)

  root_path : path_at (members_in g m) 0 ≡ 47 ∷ []
  unfolding members_in
  root_path = refl

  plain_at : (k : ℕ) → k < length (node_names [] m.tree) → IsPlain (path_at (members_in g m) (suc k))
  plain_at k h = subst IsPlain (sym (path_is k h)) (sound_path [] (node_names [] m.tree) k (root_of m) sound h)

  leads_at : (k : ℕ) → k < length (node_names [] m.tree) → Leads (entries_of m.tree) [] (at k)
  leads_at k h = leads [] m.tree (at k) plain_all differ (among_at (node_names [] m.tree) k (root_of m) h)

  -- ---- the four properties

  plain : (i : ℕ) → i < length (members_in g m) → kind_at (members_in g m) i ≢ Nothing
      → IsPlain (path_at (members_in g m) i)
  plain zero h some = absurd (some (root_nothing g m))
  plain (suc k) h some = plain_at k (within k h)

  distinct : (i j : ℕ) → i < length (members_in g m) → j < length (members_in g m)
      → path_at (members_in g m) i ≡ path_at (members_in g m) j → i ≡ j
  distinct zero zero a b is = refl
  distinct zero (suc k) a b is =
      absurd (not_root (path_at (members_in g m) (suc k)) (plain_at k (within k b)) (sym root_path ∙ is))
  distinct (suc k) zero a b is =
      absurd (not_root (path_at (members_in g m) (suc k)) (plain_at k (within k a)) (sym root_path ∙ sym is))
  distinct (suc k) (suc j) a b is =
      ap suc (differ_at (node_names [] m.tree) k j (root_of m) differ (within k a) (within j b)
      (sym (path_is k (within k a)) ∙ is ∙ path_is j (within j b)))

  no_way : (k j : ℕ) → k < length (node_names [] m.tree) → j < length (node_names [] m.tree)
      → kind_at (members_in g m) (suc k) ≡ Symlink
      → LeadsThrough (path_at (members_in g m) (suc k)) (path_at (members_in g m) (suc j)) → ⊥
  no_way k j a b is through =
      let x = leads_at k a in
      let y = leads_at j b in
      let way : names_path (y.head ∷ y.more) ≡ names_path (x.head ∷ x.more) ++ 47 ∷ through.0 =
      sym y.path ∙ sym (path_is j b) ∙ through.1 ∙ ap (λ (v : List ℕ). v ++ 47 ∷ through.0) (path_is k a ∙ x.path) in
      let more = longer (x.head ∷ x.more) (y.head ∷ y.more) through.0 x.plain y.plain way in
      nothing_below (x.head ∷ x.more) more.0 more.1 m.tree (at k).node (at j).node x.node
      (link_entries (at k).node (first_behind (before k) (at k).node) more.0 (sym (kind_is k a) ∙ is))
      (ap (λ (ns : List (List ℕ)). node_under ns m.tree) (sym more.2) ∙ y.node)

  leaves : (i j : ℕ) → i < length (members_in g m) → j < length (members_in g m) → kind_at (members_in g m) i ≡ Symlink
      → LeadsThrough (path_at (members_in g m) i) (path_at (members_in g m) j) → ⊥
  leaves zero j a b is through = no_link (sym (root_nothing g m) ∙ is)
    where
      no_link : Nothing ≡ Symlink → ⊥
      no_link h = cc
  leaves (suc k) zero a b is through =
      not_through (path_at (members_in g m) (suc k)) (plain_at k (within k a)) (through.0, sym root_path ∙ through.1)
  leaves (suc k) (suc j) a b is through = no_way k j (within k a) (within j b) is through

  -- ---- further names

  in_tree : (k : ℕ) → k < length (node_names [] m.tree) → IsIn (at k).node (nodes m.tree)
  in_tree k h = node_in m k h

  many : length (members_in g m) ≡ suc (length (node_names [] m.tree))
  unfolding members_in
  many = ap suc (length-members g m (root_of m ∷ []) (node_names [] m.tree))

  first_is_file : (k f : ℕ) (o : Option ℕ) → k < length (node_names [] m.tree) → IsFurther (at k).node o f
      → place_of (ino_of (at k).node) (before k) ≡ Some f
      → (f < length (members_in g m)) × (kind_at (members_in g m) f ≡ File)
  first_is_file k zero o h it place =
      let place_is = first_place (ino_of (at k).node) (before k) 0 (root_of m) place in
      let same = m.coherent m.tree (at k).node (root_in m) (in_tree k h) place_is.number_is in
      absurd (true_false (is_directory m.tree) lawful.root (ap is_directory same ∙ it.no_directory))
  first_is_file k (suc f) o h it place =
      let number : ℕ = ino_of (at k).node in
      let place_is = first_place number (before k) (suc f) (root_of m) place in
      let few = length-take-le k (node_names [] m.tree) (omega (arith, h)) in
      let lower : f < k = omega (arith, place_is.within, few) in
      let inside : f < length (node_names [] m.tree) = omega (arith, lower, h) in
      let here_is : get_or (take k (node_names [] m.tree)) f (root_of m) ≡ at f =
      get_or-take k (node_names [] m.tree) f (root_of m) lower in
      let same_number : ino_of (at f).node ≡ number =
      ap (λ (n : Name). ino_of n.node) (sym here_is) ∙ place_is.number_is in
      let same : (at f).node ≡ (at k).node = m.coherent (at f).node (at k).node (in_tree f inside)
      (in_tree k h) same_number in
      let none : place_of (ino_of (at f).node) (before f) ≡ None =
      ap (λ (n : ℕ). place_of n (before f)) same_number
      ∙ ap (λ (ns : List Name). place_of number (root_of m ∷ ns))
      (sym (take-take f k (node_names [] m.tree) (omega (arith, lower))))
      ∙ place_is.none_before in
      let first : first_behind (before f) (at f).node ≡ None =
      ap (λ (b : Bool). cond b None (place_of (ino_of (at f).node) (before f))) (ap is_directory same ∙ it.no_directory)
      ∙ none in (
        omega (arith, inside, many),
        kind_is f inside ∙ ap (λ kind. made_of kind (first_behind (before f) (at f).node))
            (ap kind_of same ∙ it.regular_is)
            ∙ ap file_by first,
      )

  further : (i f : ℕ) → i < length (members_in g m) → kind_at (members_in g m) i ≡ Further f
      → (f < length (members_in g m)) × (kind_at (members_in g m) f ≡ File)
  further zero f a is = absurd (never f (sym (root_nothing g m) ∙ is))
    where
      never : (f : ℕ) → Nothing ≡ Further f → ⊥
      never f h = cc
  further (suc k) f a is =
      let h = within k a in
      let o : Option ℕ = first_behind (before k) (at k).node in
      let it = is_further (at k).node o f (sym (kind_is k h) ∙ is) in
      first_is_file k f o h it
      (sym (ap (λ (b : Bool). cond b None (place_of (ino_of (at k).node) (before k))) it.no_directory) ∙ it.first_is)

  are_members : AreMembers (members_in g m)
  are_members = record { plain = plain; distinct = distinct; leaves = leaves; further = further }

  -- ---- all paths differ

  path_of_name : (i : ℕ) (d : List ℕ) → i < length (members_in g m)
      → path_at (members_in g m) i ≡ get_or (map (λ (n : Name). n.path) (names m.tree)) i d
  unfolding names
  path_of_name zero d h = root_path
  path_of_name (suc k) d h = path_is k (within k h)
      ∙ sym (get_or-map (λ (n : Name). n.path) (node_names [] m.tree) k (root_of m) d (within k h))

  as_many : length (map (λ (n : Name). n.path) (names m.tree)) ≡ length (members_in g m)
  unfolding names
  as_many = ap suc (length-map (node_names [] m.tree) (λ (n : Name). n.path)) ∙ sym many

  apart : (i j : ℕ) (d : List ℕ) → i < j → j < length (map (λ (n : Name). n.path) (names m.tree))
      → bytes_eq (get_or (map (λ (n : Name). n.path) (names m.tree)) i d)
      (get_or (map (λ (n : Name). n.path) (names m.tree)) j d) ≡ false
  apart i j d less h =
      let p : List ℕ = get_or (map (λ (n : Name). n.path) (names m.tree)) i d in
      let q : List ℕ = get_or (map (λ (n : Name). n.path) (names m.tree)) j d in
      let high : j < length (members_in g m) = omega (arith, h, as_many) in
      let low : i < length (members_in g m) = omega (arith, less, high) in
      false_from_ne_true (bytes_eq p q) (λ e.
      let same : path_at (members_in g m) i ≡ path_at (members_in g m) j =
      path_of_name i d low ∙ ((bytes_decides p q).0 e ∙ sym (path_of_name j d high)) in
      absurd (omega (arith, less, distinct i j low high same)))

  own_paths : IsDistinct bytes_eq (map (λ (n : Name). n.path) (names m.tree))
  own_paths = IsDistinct-from_apart bytes_eq (map (λ (n : Name). n.path) (names m.tree)) apart

pub paths_differ : (m : Image) → IsLawfulTree m.tree → IsDistinct bytes_eq (map (λ (n : Name). n.path) (names m.tree))
paths_differ m lawful = own_paths (record { owners = true; masked = 0 }) m lawful

pub extractable : (g : Giving) (m : Image) → IsLawfulTree m.tree → AreMembers (members_in g m)
extractable g m lawful = are_members g m lawful
