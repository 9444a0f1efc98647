-- `items_of`: the items of a cramfs layout, one for each inode in the order of their offsets.
-- `sections_of`: its sections. `AreAlignedBy`: files with the contents of one source have one
-- alignment. (This project's own.)
use Rattle.std.specs.Prelude.{◌≡◌, ℕ, ◌+◌, ◌*◌, ◌==◌, ◌||◌, Bool, if◌then◌else◌, List, [], ◌∷◌}
use Rattle.std.specs.Prelude.{◌++◌}
use Rattle.std.specs.List.{list_any}
use Rattle.cramfs_format.specs.declared.order.Order.{Order}
use Rattle.cramfs_format.specs.Inode.{block_count}
use Rattle.cramfs_format.specs.Refers.{root_place}
use Rattle.manifest_tree.specs.Names.{Fill, no_bytes, source, Inode, Names, nothing, leaf, link}
use Rattle.manifest_tree.specs.Names.{subdirectory}
use Rattle.manifest_tree.specs.Items.{Item, Section, section, super, record_of, table_of}
use Rattle.manifest_tree.specs.Items.{bytes_section, in_order}
use Rattle.cramfs_layout.specs.Layout.{first_word, second_word, third_word, pad4, size_by}
use Rattle.cramfs_layout.specs.Layout.{entry_len, list_len, State, Kept, nowhere, shared, fresh}
use Rattle.cramfs_layout.specs.Layout.{kept, data_of, table_by, after_file, after_list, after_names}
use Rattle.cramfs_layout.specs.Layout.{list_offset, first_state, root_offset}

-- an inode with its name as an item; its words have its size and the offset of its list or table
abbrev pub item_of : Order → ℕ → List ℕ → Inode → ℕ → ℕ → ℕ → ℕ → ℕ → Fill → Item
item_of o place name i size offset table start len fill = record {
  place = place;
  first = first_word o i;
  second = second_word o i size;
  third = third_word o name offset;
  name = name;
  table = table;
  start = start;
  len = len;
  fill = fill;
}

-- the offset of a file's bytes; behind a table that exists already, it is that of the table's bytes
abbrev pub start_by : Kept → ℕ → Inode → ℕ
start_by nowhere from i = 0
start_by (shared t) from i = data_of t i
start_by fresh from i = data_of from i

-- the item at l of a file whose bytes are kept so
abbrev pub kept_item : Order → ℕ → ℕ → List ℕ → Inode → Kept → Item
kept_item o l from name i k =
    item_of o l name i (size_by i.kind i) (table_by k from) (table_by k from)
    (start_by k from i) i.size i.fill

abbrev pub file_item : Order → ℕ → State → List ℕ → Inode → Item
file_item o l s name i = kept_item o l s.at name i (kept s.tables i)

-- the entries of a list from l on
abbrev pub entries : Order → ℕ → State → Names → List Item
entries o l s nothing = []
entries o l s (leaf name i rest) =
    file_item o l s name i ∷ entries o (l + entry_len name) (after_file s i) rest
entries o l s (link name i rest) =
    file_item o l s name i ∷ entries o (l + entry_len name) (after_file s i) rest
entries o l s (subdirectory name i own rest) =
    item_of o l name i (list_len own) (list_offset s.at own) 0 0 0 no_bytes
    ∷ entries o (l + entry_len name) (after_names (after_list s own) own) rest

-- the entries of the lists below, in the order of their offsets
abbrev pub below : Order → State → Names → List Item
below o s nothing = []
below o s (leaf name i rest) = below o (after_file s i) rest
below o s (link name i rest) = below o (after_file s i) rest
below o s (subdirectory name i own rest) =
    entries o (pad4 s.at) (after_list s own) own
    ++ (below o (after_list s own) own ++ below o (after_names (after_list s own) own) rest)

-- all items: the root, whose inode is in the superblock, its entries, and those below them
abbrev pub items_of : Order → Inode → Names → List Item
items_of o root n =
    item_of o root_place [] root (list_len n) (root_offset n) 0 0 0 no_bytes
    ∷ entries o 76 (first_state n) n ++ below o (first_state n) n

-- some item has its table at this offset
abbrev pub has_table : List Item → ℕ → Bool
has_table is t = list_any (λ i. i.table == t) is

-- the table and the bytes of the item at an index, if it has any and no earlier item has the table
abbrev pub table_sections : List Item → ℕ → Item → List Section
table_sections earlier index i =
    if (i.len == 0) || has_table earlier i.table then []
    else section i.table (4 * block_count i.len) (table_of index) ∷ bytes_section index i

-- the sections of items behind earlier ones, item for item; the first item has this index
abbrev pub sections_from : List Item → ℕ → List Item → List Section
sections_from earlier index [] = []
sections_from earlier index (i ∷ is) =
    section i.place (entry_len i.name) (record_of index)
    ∷ (table_sections earlier index i ++ sections_from (i ∷ earlier) (index + 1) is)

-- The sections of the items behind the root's, which is part of the superblock, in the order of
-- their offsets.
abbrev pub sections_of : List Item → List Section
sections_of [] = section 0 76 super ∷ []
sections_of (root ∷ is) = section 0 76 super ∷ in_order (sections_from [] 1 is)

-- files with the contents of one source have one alignment, which is A of the source
abbrev pub AreAlignedBy : (ℕ → ℕ) → Names → Type 0
AreAlignedBy A nothing = Unit {0}
AreAlignedBy A (leaf name i after) =
    ((k : ℕ) → i.fill ≡ source k → i.align ≡ A k) × AreAlignedBy A after
AreAlignedBy A (link name i after) = AreAlignedBy A after
AreAlignedBy A (subdirectory name i own after) = AreAlignedBy A own × AreAlignedBy A after
