-- `Image`: bytes, tree, the meaning of cursors, and the laws that hold for them. `stat_of`,
-- `find_entry`, `IsEntry`, `IsRun`, `contents_of`: the answers of the calls. `LieIn`: bytes occur
-- somewhere among others. (This project's own.)
use Rattle.std.specs.Prelude.{◌≡◌, ℕ, ◌+◌, ◌≤◌, ◌<◌, true, false, List, length, take, drop}
use Rattle.std.specs.Prelude.{slice_index, Option, Some, None, MatchOption, IsSomeAnd, IsSome, map}
use Rattle.std.specs.Prelude.{if◌then◌else◌}
use Rattle.std.specs.Str.{bytes_eq}
use Rattle.rom_tree.specs.declared.types.Stat.{Stat}
use Rattle.rom_tree.specs.declared.types.Run.{Run}
use Rattle.rom_tree.specs.Tree.{Node, Entries, attributes_of, ino_of, kind_of, is_directory}
use Rattle.rom_tree.specs.Tree.{places_of, entry_at, node_at, nodes, IsIn, is_link, is_device}
use Rattle.rom_tree.specs.Tree.{no_entries, entry, IsCoherent}

-- An image: its bytes, its tree, and the laws that hold for them.
pub record Image : Type 0 where
  pub bytes : List ℕ
  pub tree : Node
  -- the index of a cursor in the list of the directory of this number
  pub cursor_index : ℕ → ℕ → Option ℕ
  -- a number names one node
  pub coherent : IsCoherent tree
  -- a list begins at cursor 0
  pub starts : (d : ℕ) → cursor_index d 0 ≡ Some 0
  -- a node that is no device has 0 for the numbers of a device
  pub devices : (x : Node) → IsIn x (nodes tree) → is_device x ≡ false
      → ((attributes_of x).major ≡ 0) × ((attributes_of x).minor ≡ 0)
  -- a link has a text of 1 to 4095 bytes
  pub links : (x : Node) → IsIn x (nodes tree) → is_link x ≡ true
      → (0 < length (places_of x)) × (length (places_of x) ≤ 4095)
  -- each byte of a file or a link is in the image
  pub placed : (x : Node) → IsIn x (nodes tree) → (k : ℕ) → k < length (places_of x)
      → slice_index (places_of x) k < length bytes

-- the node of a number
abbrev pub image_node : Image → ℕ → Option Node
image_node m n = node_at m.tree n

abbrev pub HasNode : Image → ℕ → Type 0
HasNode m n = IsSome (image_node m n)

abbrev pub HasDirectory : Image → ℕ → Type 0
HasDirectory m n = IsSomeAnd (image_node m n) (λ x. is_directory x ≡ true)

abbrev pub HasLink : Image → ℕ → Type 0
HasLink m n = IsSomeAnd (image_node m n) (λ x. is_link x ≡ true)

-- c is a cursor of directory d
abbrev pub HasCursor : Image → ℕ → ℕ → Type 0
HasCursor m d c = IsSome (m.cursor_index d c)

abbrev pub stat_of : Node → Stat
stat_of n = record {
  ino = ino_of n;
  kind = kind_of n;
  mode = (attributes_of n).mode;
  uid = (attributes_of n).uid;
  gid = (attributes_of n).gid;
  size = length (places_of n);
  major = (attributes_of n).major;
  minor = (attributes_of n).minor;
}

-- the node of the first entry with exactly that name
abbrev pub find_entry : Entries → List ℕ → Option Node
find_entry no_entries name = None
find_entry (entry n x es) name = (if bytes_eq n name then Some x else find_entry es name)

-- these bytes occur somewhere among the others
abbrev pub LieIn : List ℕ → List ℕ → Type 0
LieIn bytes part =
    (p : ℕ) × (p + length part ≤ length bytes) × (take (length part) (drop p bytes) ≡ part)

-- A name, a node's number and a cursor are those of the entry at an index: the cursor is at the
-- next index. The name is a part of the image's bytes.
pub record IsEntry (m : Image) (d : ℕ) (es : Entries) (i : ℕ) (name : List ℕ)
    (n c : ℕ) : Type 0 where
  pub target : Node
  pub at : entry_at es i ≡ Some (name, target)
  pub number : ino_of target ≡ n
  pub next : m.cursor_index d c ≡ Some (i + 1)
  pub lies : LieIn m.bytes name

-- r has the offset of byte `off`, and a number of bytes that follow one another from there
pub record IsRun (ps : List ℕ) (off : ℕ) (r : Run) : Type 0 where
  pub some : 0 < r.len
  pub within : off + r.len ≤ length ps
  pub row : (k : ℕ) → k < r.len → slice_index ps (off + k) ≡ r.place + k

-- there is no run if there is no byte `off`, and only then
abbrev pub GivesRun : List ℕ → ℕ → Option Run → Type 0
GivesRun ps off r = MatchOption r (length ps ≤ off) (IsRun ps off)

-- from its front on, a link is one run
abbrev pub GivesWhole : Node → ℕ → Option Run → Type 0
GivesWhole x off r =
    is_link x ≡ true → off ≡ 0 → MatchOption r (Unit {0}) (λ v. v.len ≡ length (places_of x))

-- the bytes at a node's offsets: the contents of a file, or a link's text
abbrev pub contents_of : List ℕ → Node → List ℕ
contents_of b x = map (λ p. slice_index b p) (places_of x)
