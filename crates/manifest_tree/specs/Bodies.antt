-- `body_bytes`, `section_part`: the bytes of a section of a planned image, and the section as a
-- part. (This project's own.)
use Rattle.std.specs.Prelude.{ℕ, List, [], get_or}
use Rattle.rom_fields.specs.Parts.{Part, part}
use Rattle.manifest_tree.specs.Names.{no_bytes, bytes_of}
use Rattle.manifest_tree.specs.Items.{Item, Body, super, record_of, table_of, text_of, contents_of}
use Rattle.manifest_tree.specs.Items.{Section}

-- the item for an index that has none
abbrev pub no_item : Item
no_item = record {
  place = 0;
  first = 0;
  second = 0;
  third = 0;
  name = [];
  table = 0;
  start = 0;
  len = 0;
  fill = no_bytes;
}

abbrev pub item_at : List Item → ℕ → Item
item_at is index = get_or is index no_item

-- The bytes of a body: the superblock, an item's record or table as the format writes it, an item's
-- text, or the contents of a source.
abbrev pub body_bytes : List ℕ → (Item → List ℕ) → (Item → List ℕ) → List (List ℕ) → List Item
    → Body → List ℕ
body_bytes block written pointers contents is super = block
body_bytes block written pointers contents is (record_of index) = written (item_at is index)
body_bytes block written pointers contents is (table_of index) = pointers (item_at is index)
body_bytes block written pointers contents is (text_of index) =
    bytes_of contents (item_at is index).fill
body_bytes block written pointers contents is (contents_of k) = get_or contents k []

-- a section as a part of the image
abbrev pub section_part : List ℕ → (Item → List ℕ) → (Item → List ℕ) → List (List ℕ) → List Item
    → Section → Part
section_part block written pointers contents is s =
    part s.place (body_bytes block written pointers contents is s.body)
