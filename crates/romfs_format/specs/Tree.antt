-- `RomfsTree`: these bytes hold this tree, under limits on references and depth. `IsTree`: its
-- conditions on the forest. `tree_of`: the tree of a forest. (Linux
-- Documentation/filesystems/romfs.rst. What is refused is this project's own.)
use Rattle.std.specs.Prelude.{◌++◌, ◌≡◌, ◌≢◌, ℕ, zero, suc, ◌+◌, ◌-◌, ◌/◌, ◌%◌, ◌<◌, ◌≤◌, min, Bool}
use Rattle.std.specs.Prelude.{true, false, if◌then◌else◌, ◌==◌, List, [], ◌∷◌, length, take, drop}
use Rattle.std.specs.Prelude.{Option, Some, None}
use Rattle.std.specs.List.{All, AllPairs, flat_map, list_any}
use Rattle.rom_fields.specs.Words.{word_be, words_sum}
use Rattle.rom_fields.specs.declared.span.Extent.TheVariants.{Super, Record, Data}
use Rattle.rom_fields.specs.declared.span.Span.{Span}
use Rattle.rom_fields.specs.Extents.{OverlapsAt, added}
use Rattle.record_forest.specs.declared.reference.Row.{Row}
use Rattle.record_forest.specs.Forest.{Forest, none, at, all_rows, IsForest, NamesDiffer}
use Rattle.romfs_format.specs.Record.{type_of, spec_offset_of, name_of, end_of, size_of, has_data}
use Rattle.romfs_format.specs.Record.{before_zero, pad16}
use Rattle.romfs_format.specs.Refers.{references, heads_itself, LeadsToSound}
use Rattle.rom_tree.specs.declared.types.Kind.{Kind}
use Rattle.rom_tree.specs.Dots.{dot, dot_dot, is_dots}
use Rattle.rom_tree.specs.Kinds.{KindNumbers, by_kind, kind_by, body_by, device_by}
use Rattle.rom_tree.specs.Tree.{Node, node, Body, Entries, no_entries, entry, Attributes, row_from}
use Rattle.rom_tree.specs.Tree.{depth}

-- the record types of the kinds
abbrev pub kind_numbers : KindNumbers
kind_numbers =
    record {
      of_directory = 1;
      of_regular = 2;
      of_symlink = 3;
      of_block = 4;
      of_character = 5;
      of_socket = 6;
    }

-- one of seven values, by the type of a record that is no hard link
abbrev pub by_type : {A : Type 0} → ℕ → A → A → A → A → A → A → A → A
by_type t directory' regular' symlink' block' character' socket' fifo' =
    by_kind kind_numbers t directory' regular' symlink' block' character' socket' fifo'

abbrev pub kind_named : ℕ → Kind
kind_named t = kind_by kind_numbers t

-- the modes are this project's own: romfs stores only "executable", bit 3 of the mode
abbrev pub mode_named : ℕ → Bool → ℕ
mode_named t executable =
    by_type t (if executable then 493 else 420)
    (if executable then 493 else 420) 511 384 384 420 420

-- the offsets of the data of a file or a link, which follow the record
unfoldable pub places_at : List ℕ → ℕ → List ℕ
places_at b p = row_from (end_of b p) (size_of b p)

abbrev pub executable : List ℕ → ℕ → Bool
executable b p = word_be b p / 8 % 2 == 1

-- the attributes of the record at p; a device's spec has the major number in its upper 16 bits
unfoldable pub attributes_at : List ℕ → ℕ → Attributes
attributes_at b p = record {
  ino = p;
  mode = mode_named (type_of b p) (executable b p);
  uid = 0;
  gid = 0;
  major = device_by kind_numbers (type_of b p) (word_be b (p + 4) / 65536);
  minor = device_by kind_numbers (type_of b p) (word_be b (p + 4) % 65536);
}

abbrev pub body_named : ℕ → List ℕ → Entries → Body
body_named t ps es = body_by kind_numbers t ps es

-- the node of the record at p with the list es
unfoldable pub node_of : List ℕ → ℕ → Entries → Node
node_of b p es = node (attributes_at b p) (body_named (type_of b p) (places_at b p) es)

-- the record that p leads to among those of the rows, over at most n hard links
unfoldable pub follow : List ℕ → List Row → ℕ → ℕ → Option ℕ
follow b all zero p = if type_of b p == 0 then None else Some p
follow b all (suc n) p =
    if type_of b p == 0 then (if list_any (λ (x : Row). x.offset == spec_offset_of b p) all
    then follow b all n (spec_offset_of b p) else None) else Some p

-- The record to which the one at p leads over at most n hard links, whatever is there. In a tree it
-- agrees with `follow`, which is defined only if each link leads to a record. A node is made by
-- `led`, from the bytes only, without a list of records.
unfoldable pub led : ℕ → List ℕ → ℕ → ℕ
led zero b p = p
led (suc n) b p = if type_of b (led n b p) == 0 then spec_offset_of b (led n b p) else led n b p

-- the entries of a list, in its order: each name with the node of the record that it leads to
abbrev pub entries_at : List ℕ → Forest → Entries
entries_at b none = no_entries
entries_at b (at p own after) =
    if is_dots (name_of b p) then entries_at b after else entry (name_of b p)
    (node_of b (led 8 b p) (entries_at b own)) (entries_at b after)

-- the root's list without the root itself
abbrev pub below_root : List ℕ → ℕ → Forest → Forest
below_root b r none = none
below_root b r (at p own after) = if heads_itself b r then after else own

-- the tree of the forest f in the bytes
unfoldable pub tree_of : List ℕ → ℕ → Forest → Node
tree_of b r f = node_of b r (entries_at b (below_root b r f))

-- the extents of a record: its header with the name, and its data if it has any
abbrev pub row_extents : List ℕ → Row → List Span
row_extents b x =
    added Record x.offset (end_of b x.offset - x.offset)
    ++ (if has_data (type_of b x.offset) then added Data (end_of b x.offset) (size_of b x.offset)
    else [])

-- the extents of the superblock and the records
abbrev pub extents_of : List ℕ → ℕ → List Row → List Span
extents_of b r xs = added Super 0 r ++ flat_map (row_extents b) xs

-- the record to which an entry leads: for `.` its directory, for `..` the directory's own, for any
-- other hard link no directory
pub record LeadsWell (b : List ℕ) (all : List Row) (x : Row) : Type 0 where
  pub here : name_of b x.offset ≡ dot → follow b all 8 x.offset ≡ Some x.directory
  pub above : name_of b x.offset ≡ dot_dot → follow b all 8 x.offset ≡ Some x.parent
  pub link : is_dots (name_of b x.offset) ≡ false → type_of b x.offset ≡ 0
      → (q : ℕ) × (follow b all 8 x.offset ≡ Some q) × (type_of b q ≢ 1)

-- the rows that are in lists; this includes the root's if it is the first record of its own list
unfoldable pub listed_rows : List ℕ → ℕ → List Row → List Row
listed_rows b r all = if heads_itself b r then all else drop 1 all

-- The forest f in the accessible bytes b, from the root at r on, makes a tree.
pub record IsTree (b : List ℕ) (r most deepest : ℕ) (f : Forest) : Type 0 where
  pub forest : IsForest (references b r) (LeadsToSound b r) most f
  pub shallow : depth (tree_of b r f) ≤ min deepest 64
  pub apart : (p : ℕ) → OverlapsAt (extents_of b r (all_rows (references b r) f)) p → ⊥
  pub names : AllPairs (NamesDiffer (name_of b)) (listed_rows b r (all_rows (references b r) f))
  pub leads : All (LeadsWell b (all_rows (references b r) f)) (drop 1 (all_rows (references b r) f))
  pub leaf : heads_itself b r ≡ true → name_of b r ≡ dot

-- `-rom1fs-`
abbrev pub magic : List ℕ
magic = 45 ∷ 114 ∷ 111 ∷ 109 ∷ 49 ∷ 102 ∷ 115 ∷ 45 ∷ []

-- the full size, at 8
abbrev pub full_size : List ℕ → ℕ
full_size bytes = word_be bytes 8

-- the root's header is behind the volume name, which is at 16
unfoldable pub root_of : List ℕ → ℕ
root_of b = 16 + pad16 (length (before_zero (drop 16 b)) + 1)

-- The superblock is well formed, b are the accessible bytes and the root is at r.
pub record IsSuperblock (bytes b : List ℕ) (r : ℕ) : Type 0 where
  pub long : 32 ≤ length bytes
  pub begins : take 8 bytes ≡ magic
  pub size : (32 ≤ full_size bytes) × (full_size bytes ≤ length bytes)
  pub cut : b ≡ take (full_size bytes) bytes
  pub sum : words_sum (take (min 512 (length b)) b) ≡ 0
  pub volume : 16 + length (before_zero (drop 16 b)) < length b
  pub root : r ≡ root_of b
  pub fits : r + 32 ≤ length b
  pub directory : type_of b r ≡ 1

-- t is the tree of the image, under these limits on references and depth.
pub record RomfsTree (bytes : List ℕ) (most deepest : ℕ) (t : Node) : Type 0 where
  pub b : List ℕ
  pub r : ℕ
  pub super : IsSuperblock bytes b r
  pub forest : Forest
  pub whole : IsTree b r most deepest forest
  pub same : t ≡ tree_of b r forest
