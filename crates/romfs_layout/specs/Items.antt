-- `items_of`: the items of a romfs layout, one for each header in the order of their offsets.
-- `sections_of`: its sections. (This project's own.)
use Rattle.std.specs.Prelude.{ℕ, ◌+◌, List, [], ◌∷◌, ◌++◌, map}
use Rattle.manifest_tree.specs.Names.{Inode, Names}
use Rattle.manifest_tree.specs.Items.{Item, Section, section, super, record_of, bytes_section}
use Rattle.romfs_layout.specs.Layout.{Header, all_headers, root_at, record_len}

-- a header as an item: its words are next, spec and size, it has no table, and its size is that of
-- its bytes
abbrev pub item_of : Header → Item
item_of h = record {
  place = h.place;
  first = h.next;
  second = h.spec;
  third = h.size;
  name = h.name;
  table = 0;
  start = h.start;
  len = h.size;
  fill = h.fill;
}

abbrev pub items_of : List ℕ → Inode → Names → List Item
items_of volume root n = map item_of (all_headers (root_at volume) root n)

-- the sections of items, of which the first has this index: each header, and its bytes if it has
-- any
abbrev pub sections_from : ℕ → List Item → List Section
sections_from index [] = []
sections_from index (i ∷ is) =
    section i.place (record_len i.name) (record_of index)
    ∷ (bytes_section index i ++ sections_from (index + 1) is)

-- the superblock, which ends at the root's header, and the sections of the items
abbrev pub sections_of : List ℕ → List Item → List Section
sections_of volume is = section 0 (root_at volume) super ∷ sections_from 0 is
