-- The members of an image as the code has them.
use Rattle.std.proofs.Common.{◌≡◌, ◌≢◌, ℕ, zero, suc, ◌<◌, true, false, List, [], ◌∷◌, ◌++◌, length, take, get_or}
use Rattle.std.proofs.Common.{Option, Some, map, refl, sym, ap, subst, ◌∙◌, append_assoc, append-nil, arith}
use Rattle.std.specs.Prelude.{Result, Ok, Err, OnOk}
use Rattle.std.specs.Io.KnownBytes.{Appends}
use Rattle.rom_fields.specs.Written.{WritesText}
use Rattle.rom_tree.specs.declared.types.Stat.{Stat}
use Rattle.rom_tree.specs.Image.{Image, image_node, stat_of}
use Rattle.rom_tree.specs.Names.{Name, names, node_names}
use Rattle.rom_tree.specs.Tree.{IsIn, Node, here, there, nodes, kind_of}
use Rattle.rom_tree.proofs.Nodes.{node_at-in}
use Rattle.image_manifest.specs.Composed.{path_by, way_at, ways_of}
use Rattle.image_manifest.specs.Composed.{path_at as manifest_path}
use Rattle.image_manifest.specs.declared.naming.Member.{Member}
use Rattle.image_manifest.specs.Members.{Known, AreMembers, all_behind, known_behind, known_of, members_of}
use Rattle.image_manifest.proofs.Behind.{as_many}
use Rattle.image_manifest.proofs.Lined.{names_nodes}
use Rattle.tree_extract.specs.Extracted.{is_file}
use Rattle.tree_extract.specs.Members.{Member as Made, kind_at, member_at, path_at, rights_at}
use Rattle.tree_extract.specs.declared.tree.Kind.TheVariants.{Symlink, Nothing}
use Rattle.image_manifest.specs.ExtractedKnown.{IsKnown}
use Rattle.image_manifest.specs.Rights.{given_rights}
use Rattle.image_manifest.specs.declared.giving.Giving.{Giving}
use Rattle.image_manifest.specs.ExtractedMembers.{made_of, member_behind, members_in, node_at, root_of, stat_at}
use Rattle.image_manifest.proofs.Indexed.{length-members, member_is}

in_at : (ns : List Name) (i : ℕ) (e : Name) → i < length ns → IsIn (get_or ns i e).node (map (λ n. n.node) ns)
in_at [] i e h = absurd (omega (arith, h))
in_at (n ∷ ns) zero e h = here
in_at (n ∷ ns) (suc i) e h = there (in_at ns i e (omega (arith, h)))

-- the node of a name is one of the tree
pub node_in : (m : Image) (k : ℕ) → k < length (node_names [] m.tree)
    → IsIn (get_or (node_names [] m.tree) k (root_of m)).node (nodes m.tree)
unfolding names
node_in m k h =
    subst (IsIn (get_or (node_names [] m.tree) k (root_of m)).node) (names_nodes m.tree)
    (there (in_at (node_names [] m.tree) k (root_of m) h))

pub root_in : (m : Image) → IsIn m.tree (nodes m.tree)
unfolding names
root_in m = subst (IsIn m.tree) (names_nodes m.tree) here

head_is : (a b : Known) (xs ys : List Known) → a ∷ xs ≡ b ∷ ys → a ≡ b
head_is a b xs ys is = cc

tail_is : (a b : Known) (xs ys : List Known) → a ∷ xs ≡ b ∷ ys → xs ≡ ys
tail_is a b xs ys is = cc

never_some : (a : Known) (xs : List Known) → a ∷ xs ≡ [] → ⊥
never_some a xs is = cc

-- what a member has
known_at : (before ns : List Name) (ms : List Member) (i : ℕ) (d : Member) (e : Name)
    → map known_of ms ≡ all_behind before ns → i < length ms
    → known_of (get_or ms i d) ≡ known_behind (before ++ take i ns) (get_or ns i e)
known_at before ns [] i d e is h = absurd (omega (arith, h))
known_at before [] (x ∷ ms) i d e is h = absurd (never_some (known_of x) (map known_of ms) is)
known_at before (n ∷ ns) (x ∷ ms) zero d e is h =
    head_is (known_of x) (known_behind before n) (map known_of ms) (all_behind (before ++ n ∷ []) ns) is
    ∙ ap (λ (v : List Name). known_behind v n) (sym (append-nil before))
known_at before (n ∷ ns) (x ∷ ms) (suc i) d e is h =
    known_at (before ++ n ∷ []) ns ms i d e
    (tail_is (known_of x) (known_behind before n) (map known_of ms) (all_behind (before ++ n ∷ []) ns) is)
    (omega (arith, h))
    ∙ ap (λ (v : List Name). known_behind v (get_or ns i e)) (append_assoc before (n ∷ []) (take i ns))

pub many : (g : Giving) (m : Image) (ms : List Member) → AreMembers m ms → length ms ≡ length (members_in g m)
unfolding members_of names members_in
many g m ms are =
    as_many ms (names m.tree) are.known ∙ ap suc (sym (length-members g m (root_of m ∷ []) (node_names [] m.tree)))

pub is_within : (g : Giving) (m : Image) (ms : List Member) (i : ℕ) → AreMembers m ms → i < length (members_in g m)
    → i < length ms
is_within g m ms i are h = subst (λ (n : ℕ). i < n) (sym (many g m ms are)) h

pub known : (g : Giving) (m : Image) (ms : List Member) (i : ℕ) (d : Member) → AreMembers m ms → i < length ms → i ≢ 0
    → IsKnown g m i (get_or ms i d)
unfolding members_of names members_in
known g m ms zero d are h some = absurd (some refl)
known g m ms (suc k) d are h some =
    let ns : List Name = node_names [] m.tree in
    let n : Name = get_or ns k (root_of m) in
    let all : length ms ≡ suc (length ns) = as_many ms (names m.tree) are.known in
    let within : k < length ns = omega (arith, h, all) in
    let is : known_of (get_or ms (suc k) d) ≡ known_behind (root_of m ∷ take k ns) n =
    known_at [] (names m.tree) ms (suc k) d (root_of m) are.known h in
    let at_is : member_at (members_in g m) (suc k) ≡ member_behind g m (root_of m ∷ take k ns) n =
    member_is g m (root_of m ∷ []) ns k (root_of m) within in
    record {
      node = n.node;
      at = ap (λ (v : Known). image_node m v.number) is ∙ node_at-in m.tree n.node m.coherent (node_in m k within);
      kind = ap (λ (v : Made). v.kind) at_is ∙ ap (λ (v : Known). made_of (kind_of n.node) v.first) (sym is);
      bytes = ap (λ (v : Made). v.bytes) at_is;
    }

-- what is made of a member, by the attributes of its node
pub kind_made : (g : Giving) (m : Image) (ms : List Member) (i : ℕ) (d : Member) (s : Stat) → AreMembers m ms
    → i < length ms → i ≢ 0 → ((x : Node) → image_node m (get_or ms i d).node.0 ≡ Some x → s ≡ stat_of x)
    → made_of s.kind (get_or ms i d).first ≡ kind_at (members_in g m) i
kind_made g m ms i d s are h some stat =
    let it = known g m ms i d are h some in
    ap (λ (v : Stat). made_of v.kind (get_or ms i d).first) (stat it.node it.at) ∙ sym it.kind

-- ---- the path and the node of any member

first_way : (a b : List ℕ) (xs ys : List (List ℕ)) → a ∷ xs ≡ b ∷ ys → a ≡ b
first_way a b xs ys is = cc

other_ways : (a b : List ℕ) (xs ys : List (List ℕ)) → a ∷ xs ≡ b ∷ ys → xs ≡ ys
other_ways a b xs ys is = cc

never_ways : (a : List ℕ) (xs : List (List ℕ)) → a ∷ xs ≡ [] → ⊥
never_ways a xs is = cc

way_is : (ws : List (List ℕ)) (ns : List Name) (i : ℕ) (e : Name) → map path_by ws ≡ map (λ n. n.path) ns
    → i < length ns → path_by (way_at ws i) ≡ (get_or ns i e).path
way_is ws [] i e is h = absurd (omega (arith, h))
way_is [] (n ∷ ns) i e is h = absurd (never_ways n.path (map (λ (k : Name). k.path) ns) (sym is))
way_is (w ∷ ws) (n ∷ ns) zero e is h =
    first_way (path_by w) n.path (map path_by ws) (map (λ (k : Name). k.path) ns) is
way_is (w ∷ ws) (n ∷ ns) (suc i) e is h =
    way_is ws ns i e (other_ways (path_by w) n.path (map path_by ws) (map (λ (k : Name). k.path) ns) is)
    (omega (arith, h))

among_names : (g : Giving) (m : Image) (ms : List Member) (i : ℕ) → AreMembers m ms → i < length (members_in g m)
    → i < length (names m.tree)
unfolding members_of
among_names g m ms i are h =
    subst (λ (n : ℕ). i < n) (as_many ms (names m.tree) are.known) (is_within g m ms i are h)

pub path_known : (g : Giving) (m : Image) (ms : List Member) (i : ℕ) → AreMembers m ms → i < length (members_in g m)
    → manifest_path ms i ≡ path_at (members_in g m) i
unfolding names members_in
path_known g m ms zero are h =
    way_is (ways_of ms) (names m.tree) 0 (root_of m) are.paths (among_names g m ms 0 are h)
path_known g m ms (suc k) are h =
    let among : suc k < length (names m.tree) = among_names g m ms (suc k) are h in
    way_is (ways_of ms) (names m.tree) (suc k) (root_of m) are.paths among
    ∙ sym (ap (λ (v : Made). v.path)
    (member_is g m (root_of m ∷ []) (node_names [] m.tree) k (root_of m) (omega (arith, among))))

pub node_known : (m : Image) (ms : List Member) (i : ℕ) (d : Member) → AreMembers m ms → i < length ms
    → image_node m (get_or ms i d).node.0 ≡ Some (node_at m i)
unfolding members_of
node_known m ms i d are h =
    let ns : List Name = names m.tree in
    let among : i < length ns = subst (λ (n : ℕ). i < n) (as_many ms ns are.known) h in
    ap (λ (v : Known). image_node m v.number) (known_at [] ns ms i d (root_of m) are.known h)
    ∙ node_at-in m.tree (get_or ns i (root_of m)).node m.coherent
    (subst (IsIn (get_or ns i (root_of m)).node) (names_nodes m.tree) (in_at ns i (root_of m) among))

-- a member gets the rights that are given by its node's attributes
pub rights_known : (g : Giving) (m : Image) (i : ℕ) → i < length (members_in g m)
    → rights_at (members_in g m) i ≡ given_rights g (stat_at m i)
unfolding names members_in
rights_known g m zero h = refl
rights_known g m (suc k) h =
    ap (λ (v : Made). v.rights) (member_is g m (root_of m ∷ []) (node_names [] m.tree) k (root_of m)
    (omega (arith, h, length-members g m (root_of m ∷ []) (node_names [] m.tree))))

-- ---- nothing is made of the root

pub root_nothing : (g : Giving) (m : Image) → kind_at (members_in g m) 0 ≡ Nothing
unfolding members_in
root_nothing g m = refl

pub no_file : (g : Giving) (m : Image) (i : ℕ) → is_file (kind_at (members_in g m) i) ≡ true → i ≢ 0
no_file g m i file root =
    never (ap is_file (sym (root_nothing g m)) ∙ ap (λ (k : ℕ). is_file (kind_at (members_in g m) k)) (sym root) ∙ file)
  where
    never : false ≡ true → ⊥
    never h = cc

pub no_link : (g : Giving) (m : Image) (i : ℕ) → kind_at (members_in g m) i ≡ Symlink → i ≢ 0
no_link g m i link root =
    never (sym (root_nothing g m) ∙ ap (λ (k : ℕ). kind_at (members_in g m) k) (sym root) ∙ link)
  where
    never : Nothing ≡ Symlink → ⊥
    never h = cc

-- ---- what is written

pub whole_at_ok : {A E : Type 0} (r : Result A E) (old new : Option (List ℕ)) (text bytes : List ℕ)
    → WritesText old new r text → bytes ≡ text → OnOk r (Appends old new bytes)
whole_at_ok (Ok a) old new text bytes h is = subst (λ (v : List ℕ). Appends old new v) (sym is) h
whole_at_ok (Err e) old new text bytes h is = tt
