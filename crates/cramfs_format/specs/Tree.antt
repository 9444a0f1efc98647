-- `CramfsTree`: these bytes hold this tree, under limits on references and depth. `IsTree`: its
-- conditions on the forest. `tree_of`: the tree of a forest. `extents_of`: the extents of
-- superblock, lists, tables and blocks. `precedes`: the order of names. (Linux
-- Documentation/filesystems/cramfs.rst and include/uapi/linux/cramfs_fs.h. What is refused is this
-- project's own.)
use Rattle.std.specs.Prelude.{◌++◌, ◌≡◌, ◌≢◌, ℕ, zero, suc, ◌+◌, ◌-◌, ◌*◌, ◌/◌, ◌%◌, ◌≤◌, min}
use Rattle.std.specs.Prelude.{nat_lt, Bool, true, false, if◌then◌else◌, ◌==◌, List, [], ◌∷◌, drop}
use Rattle.std.specs.List.{All, AllPairs, flat_map}
use Rattle.rom_fields.specs.declared.span.Extent.TheVariants.{Super, List as ListOf, Table, Data}
use Rattle.rom_fields.specs.declared.span.Span.{Span}
use Rattle.rom_fields.specs.Extents.{OverlapsAt, added}
use Rattle.record_forest.specs.declared.reference.Row.{Row}
use Rattle.record_forest.specs.Forest.{Forest, none, at, all_rows, IsForest, NamesDiffer}
use Rattle.rom_tree.specs.declared.types.Kind.{Kind}
use Rattle.rom_tree.specs.Dots.{dot, dot_dot}
use Rattle.rom_tree.specs.Kinds.{KindNumbers, by_kind, kind_by, body_by, device_by}
use Rattle.rom_tree.specs.Tree.{Node, node, Body, Entries, no_entries, entry, Attributes, row_from}
use Rattle.rom_tree.specs.Tree.{depth}
use Rattle.cramfs_format.specs.Order.{word}
use Rattle.cramfs_format.specs.declared.order.Order.{Order}
use Rattle.cramfs_format.specs.Inode.{mode_of, uid_of, gid_of, size_of, type_of, name_of, offset_of}
use Rattle.cramfs_format.specs.Inode.{has_data, block_count, block_start}
use Rattle.cramfs_format.specs.Refers.{references, root_place, LeadsToSound}
use Rattle.cramfs_format.specs.Superblock.{IsSuperblock}

-- the inode types of the kinds
abbrev pub kind_numbers : KindNumbers
kind_numbers =
    record {
      of_directory = 4;
      of_regular = 8;
      of_symlink = 10;
      of_block = 6;
      of_character = 2;
      of_socket = 12;
    }

-- one of seven values, by the type of an inode
abbrev pub by_type : {A : Type 0} → ℕ → A → A → A → A → A → A → A → A
by_type t directory' regular' symlink' block' character' socket' fifo' =
    by_kind kind_numbers t directory' regular' symlink' block' character' socket' fifo'

abbrev pub kind_named : ℕ → Kind
kind_named t = kind_by kind_numbers t

-- the offsets of the bytes in k blocks one after the other, `size` bytes in all; their pointers are
-- at q and after it
abbrev pub blocks_from : Order → List ℕ → ℕ → ℕ → ℕ → List ℕ
blocks_from o b zero q size = []
blocks_from o b (suc k) q size =
    row_from (block_start (word o b q)) (min 4096 size) ++ blocks_from o b k (q + 4) (size - 4096)

-- the offsets of the data of a file or a link
unfoldable pub places_at : Order → List ℕ → ℕ → List ℕ
places_at o b p = blocks_from o b (block_count (size_of o b p)) (offset_of o b p) (size_of o b p)

-- the attributes of the inode at p; the size of a device is 256 times its major number, plus its
-- minor number
unfoldable pub attributes_at : Order → List ℕ → ℕ → Attributes
attributes_at o b p = record {
  ino = p;
  mode = mode_of o b p % 4096;
  uid = uid_of o b p;
  gid = gid_of o b p;
  major = device_by kind_numbers (type_of o b p) (size_of o b p / 256);
  minor = device_by kind_numbers (type_of o b p) (size_of o b p % 256);
}

abbrev pub body_named : ℕ → List ℕ → Entries → Body
body_named t ps es = body_by kind_numbers t ps es

-- the node of the inode at p with the list es
unfoldable pub node_of : Order → List ℕ → ℕ → Entries → Node
node_of o b p es = node (attributes_at o b p) (body_named (type_of o b p) (places_at o b p) es)

-- the entries of a list, in its order
abbrev pub entries_at : Order → List ℕ → Forest → Entries
entries_at o b none = no_entries
entries_at o b (at p own after) =
    entry (name_of o b p) (node_of o b p (entries_at o b own)) (entries_at o b after)

-- the root's list
abbrev pub below_root : Forest → Forest
below_root none = none
below_root (at p own after) = own

-- the tree of the forest f in the bytes
unfoldable pub tree_of : Order → List ℕ → Forest → Node
tree_of o b f = node_of o b root_place (entries_at o b (below_root f))

-- the extents of k blocks of `size` bytes in all, whose pointers are at q and after it
abbrev pub data_from : Order → List ℕ → ℕ → ℕ → ℕ → List Span
data_from o b zero q size = []
data_from o b (suc k) q size =
    added Data (block_start (word o b q)) (min 4096 size) ++ data_from o b k (q + 4) (size - 4096)

-- the extents of a file or a link: its block pointers and its blocks
unfoldable pub file_extents : Order → List ℕ → ℕ → List Span
file_extents o b p = added Table (offset_of o b p) (4 * block_count (size_of o b p))
    ++ data_from o b (block_count (size_of o b p)) (offset_of o b p) (size_of o b p)

-- the extents of a record besides its own bytes in a list: for a directory its list, for a file or
-- a link its pointers and blocks
abbrev pub row_extents : Order → List ℕ → Row → List Span
row_extents o b x =
    (if type_of o b x.offset == 4 then added ListOf (offset_of o b x.offset) (size_of o b x.offset)
    else [])
    ++ (if has_data (type_of o b x.offset) then file_extents o b x.offset else [])

-- the extents of the superblock and the records
abbrev pub extents_of : Order → List ℕ → List Row → List Span
extents_of o b xs = added Super 0 76 ++ flat_map (row_extents o b) xs

-- x comes before y in the order of unsigned bytes, a proper front first
abbrev pub precedes : List ℕ → List ℕ → Bool
precedes xs [] = false
precedes [] (y ∷ ys) = true
precedes (x ∷ xs) (y ∷ ys) = if nat_lt x y then true else (if x == y then precedes xs ys else false)

-- the flag for sorted lists
abbrev pub is_sorted : Order → List ℕ → Bool
is_sorted o b = word o b 8 / 2 % 2 == 1

-- names in one list rise
abbrev pub NamesRise : Order → List ℕ → Row → Row → Type 0
NamesRise o b x y =
    x.directory ≡ y.directory → precedes (name_of o b x.offset) (name_of o b y.offset) ≡ true

-- lists have neither `.` nor `..`
pub record IsNoDot (o : Order) (b : List ℕ) (x : Row) : Type 0 where
  pub here : name_of o b x.offset ≢ dot
  pub above : name_of o b x.offset ≢ dot_dot

-- The forest f in the accessible bytes b makes a tree.
pub record IsTree (o : Order) (b : List ℕ) (most deepest : ℕ) (f : Forest) : Type 0 where
  pub forest : IsForest (references o b) (LeadsToSound o b) most f
  pub shallow : depth (tree_of o b f) ≤ min deepest 64
  pub apart : (p : ℕ) → OverlapsAt (extents_of o b (all_rows (references o b) f)) p → ⊥
  pub names : AllPairs (NamesDiffer (name_of o b)) (drop 1 (all_rows (references o b) f))
  pub no_dots : All (IsNoDot o b) (drop 1 (all_rows (references o b) f))
  pub rising : is_sorted o b ≡ true
      → AllPairs (NamesRise o b) (drop 1 (all_rows (references o b) f))

-- t is the tree of the image, under these limits on references and depth.
pub record CramfsTree (o : Order) (bytes : List ℕ) (most deepest : ℕ) (t : Node) : Type 0 where
  pub b : List ℕ
  pub super : IsSuperblock o bytes b
  pub forest : Forest
  pub whole : IsTree o b most deepest forest
  pub same : t ≡ tree_of o b forest
