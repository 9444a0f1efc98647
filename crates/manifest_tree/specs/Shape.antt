-- `node_under`, `file_under`: the node or file to which the names on a path lead, in a tree and in
-- names. `HasShape`: a tree has the same file as the names at each path, and one node at two paths
-- exactly if both paths lead to one line's file. (This project's own.)
use Rattle.std.specs.Prelude.{◌≡◌, ℕ, if◌then◌else◌, List, [], ◌∷◌, map, get_or, Option, Some, None}
use Rattle.std.specs.Prelude.{◌↔◌}
use Rattle.std.specs.Str.{bytes_eq}
use Rattle.std.specs.Option.{option_and_then, option_map}
use Rattle.rom_tree.specs.declared.types.Kind.{Kind}
use Rattle.rom_tree.specs.Tree.{Node, attributes_of, kind_of, places_of, entries_of, ino_of}
use Rattle.rom_tree.specs.Image.{find_entry}
use Rattle.manifest_tree.specs.Names.{Inode, Names, nothing, leaf, link, subdirectory, bytes_of}

-- the attributes and the bytes of a file, apart from its number
pub record Value : Type 0 where
  pub kind : Kind
  pub mode : ℕ
  pub uid : ℕ
  pub gid : ℕ
  pub major : ℕ
  pub minor : ℕ
  pub bytes : List ℕ

-- the value of a node of an image's tree
unfoldable pub node_value : List ℕ → Node → Value
node_value image n = record {
  kind = kind_of n;
  mode = (attributes_of n).mode;
  uid = (attributes_of n).uid;
  gid = (attributes_of n).gid;
  major = (attributes_of n).major;
  minor = (attributes_of n).minor;
  bytes = map (λ p. get_or image p 0) (places_of n);
}

-- the value of a file of a manifest
unfoldable pub file_value : List (List ℕ) → Inode → Value
file_value contents i = record {
  kind = i.kind;
  mode = i.mode;
  uid = i.uid;
  gid = i.gid;
  major = i.major;
  minor = i.minor;
  bytes = bytes_of contents i.fill;
}

-- a file with its own names
pub record Named : Type 0 where
  pub inode : Inode
  pub own : Names

abbrev pub with_names : Inode → Names → Named
with_names i n = record { inode = i; own = n }

-- the file that a name of a list names
abbrev pub find_name : Names → List ℕ → Option Named
find_name nothing m = None
find_name (leaf name i after) m =
    if bytes_eq name m then Some (with_names i nothing) else find_name after m
find_name (link name i after) m =
    if bytes_eq name m then Some (with_names i nothing) else find_name after m
find_name (subdirectory name i own after) m =
    if bytes_eq name m then Some (with_names i own) else find_name after m

-- the node or file to which the names on a path lead
abbrev pub node_under : List (List ℕ) → Node → Option Node
node_under [] t = Some t
node_under (m ∷ ms) t = option_and_then (λ x. node_under ms x) (find_entry (entries_of t) m)

abbrev pub file_under : List (List ℕ) → Named → Option Inode
file_under [] x = Some x.inode
file_under (m ∷ ms) x = option_and_then (λ y. file_under ms y) (find_name x.own m)

-- The tree t of an image has the shape of these names: at each path the same file, and one node at
-- two paths exactly if they are of one line.
pub record HasShape (image : List ℕ) (t : Node) (contents : List (List ℕ)) (root : Inode)
    (n : Names) : Type 0 where
  pub values : (q : List (List ℕ))
      → option_map (node_value image) (node_under q t)
      ≡ option_map (file_value contents) (file_under q (with_names root n))
  pub shared : (p q : List (List ℕ)) (x y : Node) (i j : Inode) → node_under p t ≡ Some x
      → node_under q t ≡ Some y
      → file_under p (with_names root n) ≡ Some i → file_under q (with_names root n) ≡ Some j
      → (ino_of x ≡ ino_of y) ↔ (i.line ≡ j.line)
