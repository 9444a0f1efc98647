-- What numbers of images and nodes name.
use Rattle.std.proofs.Common.{◌≡◌, ℕ, zero, suc, ◌<◌, ◌≤◌, true, List, [], ◌∷◌, length, map, Some, None, refl, ap, ◌∙◌}
use Rattle.std.proofs.Common.{arith, get_or}
use Rattle.std.proofs.lemmas.List.{length-map}
use Rattle.std.specs.Prelude.{slice_index, slice_set}
use Rattle.rom_tree.specs.Tree.{Node, ino_of, is_link, entries_of, places_of}
use Rattle.rom_tree.specs.Image.{Image, image_node, find_entry, contents_of}
use Rattle.rom_tree.proofs.Nodes.{node_at-some}
use Rattle.rom_tree.proofs.Named.{node_number, root_node, named_node}
use Rattle.path_walk.specs.Graft.{tree_in, bytes_in, node_in}

pub none_some : {A : Type 0} (x : A) → None ≡ Some x → ⊥
none_some x h = cc

-- a number names a node of an image that is there
pub node_below : (ms : List Image) (i n : ℕ) (x : Node) → node_in ms i n ≡ Some x → i < length ms
node_below [] i n x h = absurd (none_some x h)
node_below (m ∷ ms) zero n x h = omega arith
node_below (m ∷ ms) (suc i) n x h = let k = node_below ms i n x h in omega (arith, k)

pub node_in-number : (ms : List Image) (i n : ℕ) (x : Node) → node_in ms i n ≡ Some x → ino_of x ≡ n
node_in-number [] i n x h = absurd (none_some x h)
node_in-number (m ∷ ms) zero n x h = node_number m n x h
node_in-number (m ∷ ms) (suc i) n x h = node_in-number ms i n x h

-- the root, and the node of an entry
pub node_in-root : (ms : List Image) (i n : ℕ) → i < length ms → n ≡ ino_of (tree_in ms i)
    → node_in ms i n ≡ Some (tree_in ms i)
node_in-root [] i n l e = absurd (omega (arith, l))
node_in-root (m ∷ ms) zero n l e = root_node m n e
node_in-root (m ∷ ms) (suc i) n l e = node_in-root ms i n (omega (arith, l)) e

pub node_in-named : (ms : List Image) (i n : ℕ) (d x : Node) (name : List ℕ) → node_in ms i n ≡ Some d
    → find_entry (entries_of d) name ≡ Some x → node_in ms i (ino_of x) ≡ Some x
node_in-named [] i n d x name h f = absurd (none_some d h)
node_in-named (m ∷ ms) zero n d x name h f = named_node m n d x name h f
node_in-named (m ∷ ms) (suc i) n d x name h f = node_in-named ms i n d x name h f

-- a link's text has 1 to 4095 bytes
text_length : (m : Image) (n : ℕ) (x : Node) → image_node m n ≡ Some x → is_link x ≡ true
    → (0 < length (contents_of m.bytes x)) × (length (contents_of m.bytes x) ≤ 4095)
text_length m n x e l =
    let i = m.links x (node_at-some m.tree n x e).within l in
    let k = length-map (places_of x) (λ (p : ℕ). slice_index m.bytes p) in
    (omega (arith, k, i), omega (arith, k, i))

pub link_length : (ms : List Image) (i n : ℕ) (x : Node) → node_in ms i n ≡ Some x → is_link x ≡ true
    → (0 < length (contents_of (bytes_in ms i) x)) × (length (contents_of (bytes_in ms i) x) ≤ 4095)
link_length [] i n x h l = absurd (none_some x h)
link_length (m ∷ ms) zero n x h l = text_length m n x h l
link_length (m ∷ ms) (suc i) n x h l = link_length ms i n x h l

-- the nodes and bytes of one image of a slice
module _ {T : Type 0} (f : T → Image) where
  pub map_node : (xs : List T) (i n : ℕ) (d : T) (x : Node) → node_in (map f xs) i n ≡ Some x
      → image_node (f (get_or xs i d)) n ≡ Some x
  map_node [] i n d x h = absurd (none_some x h)
  map_node (y ∷ ys) zero n d x h = h
  map_node (y ∷ ys) (suc i) n d x h = map_node ys i n d x h

  pub map_bytes : (xs : List T) (i : ℕ) (d : T) → i < length xs → bytes_in (map f xs) i ≡ (f (get_or xs i d)).bytes
  map_bytes [] i d l = absurd (omega (arith, l))
  map_bytes (y ∷ ys) zero d l = refl
  map_bytes (y ∷ ys) (suc i) d l = map_bytes ys i d (omega (arith, l))

  pub map_tree : (xs : List T) (i : ℕ) (d : T) → i < length xs → tree_in (map f xs) i ≡ (f (get_or xs i d)).tree
  map_tree [] i d l = absurd (omega (arith, l))
  map_tree (y ∷ ys) zero d l = refl
  map_tree (y ∷ ys) (suc i) d l = map_tree ys i d (omega (arith, l))

  -- an image is written over by one that is seen the same
  pub map_set : (xs : List T) (i : ℕ) (d z : T) → f z ≡ f (get_or xs i d) → map f (slice_set xs i z) ≡ map f xs
  map_set [] i d z e = refl
  map_set (y ∷ ys) zero d z e = ap (λ (v : Image). v ∷ map f ys) e
  map_set (y ∷ ys) (suc i) d z e = ap (λ (v : List Image). f y ∷ v) (map_set ys i d z e)

  pub map_below : (xs : List T) (i : ℕ) → i < length (map f xs) → i < length xs
  map_below xs i l = let k = length-map xs f in omega (arith, k, l)

  -- a place that names a node: its image is there, and has the node
  pub place_within : (xs : List T) (i n : ℕ) (x : Node) → node_in (map f xs) i n ≡ Some x → i < length xs
  place_within xs i n x h = map_below xs i (node_below (map f xs) i n x h)

  pub place_node : (xs : List T) (i n : ℕ) (y : T) (x : Node) → y ≡ get_or xs i y → node_in (map f xs) i n ≡ Some x
      → image_node (f y) n ≡ Some x
  place_node xs i n y x e h = ap (λ v. image_node (f v) n) e ∙ map_node xs i n y x h

-- one image alone
pub one_node : (m : Image) (i n : ℕ) (x : Node) → node_in (m ∷ []) i n ≡ Some x → image_node m n ≡ Some x
one_node m zero n x h = h
one_node m (suc i) n x h = absurd (none_some x h)
