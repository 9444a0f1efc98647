-- `composed`: a cramfs image from the sections of its items. (This project's own.)
use Rattle.std.specs.Prelude.{ℕ, ◌-◌, List, [], ◌∷◌, ◌++◌, map, length, replicate}
use Rattle.cramfs_format.specs.declared.order.Order.{Order}
use Rattle.cramfs_format.specs.Inode.{block_count}
use Rattle.rom_fields.specs.Parts.{Part, part, laid}
use Rattle.manifest_tree.specs.Items.{Item, Section}
use Rattle.manifest_tree.specs.Bodies.{section_part}
use Rattle.cramfs_layout.specs.Layout.{word_bytes, pad4, pointers, with_crc}
use Rattle.cramfs_layout.specs.Items.{sections_of}

-- the inode of an item with its name
abbrev pub written : Order → Item → List ℕ
written o i =
    word_bytes o i.first ++ (word_bytes o i.second ++ (word_bytes o i.third
    ++ (i.name ++ replicate (pad4 (length i.name) - length i.name) 0)))

-- the block pointers of an item
abbrev pub table : Order → Item → List ℕ
table o i = pointers o i.start (block_count i.len)

-- a section as a part of an image with this superblock
abbrev pub cramfs_part : Order → List ℕ → List (List ℕ) → List Item → Section → Part
cramfs_part o block contents is s = section_part block (written o) (table o) contents is s

-- the sections one after the other, with zeros between and behind them, and the crc of the whole
unfoldable pub composed : Order → List ℕ → ℕ → List (List ℕ) → List Item → List ℕ
composed o block size contents is =
    with_crc o (laid [] (map (cramfs_part o block contents is) (sections_of is) ++ part size []
    ∷ []))
