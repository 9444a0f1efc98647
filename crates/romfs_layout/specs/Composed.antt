-- `composed`: a romfs image from the sections of its items. (This project's own.)
use Rattle.std.specs.Prelude.{ℕ, ◌-◌, List, [], ◌∷◌, ◌++◌, map, replicate}
use Rattle.rom_fields.specs.Padding.{pad}
use Rattle.rom_fields.specs.Parts.{Part, part, laid}
use Rattle.rom_fields.specs.Sums.{sealed}
use Rattle.manifest_tree.specs.Items.{Item, Section}
use Rattle.manifest_tree.specs.Bodies.{section_part}
use Rattle.romfs_layout.specs.Layout.{superblock, header_bytes}
use Rattle.romfs_layout.specs.Items.{sections_of}

-- the header of an item
abbrev pub written : Item → List ℕ
written i = header_bytes i.first i.second i.third i.name

-- a section as a part of an image of this size; there are no tables
abbrev pub romfs_part : List ℕ → ℕ → List (List ℕ) → List Item → Section → Part
romfs_part volume size contents is s =
    section_part (superblock size volume) written (λ i. []) contents is s

-- The sections one after the other, with zeros between and behind them, the word that brings the
-- superblock's sum to 0, and zeros up to a multiple of 1,024.
unfoldable pub composed : List ℕ → ℕ → List (List ℕ) → List Item → List ℕ
composed volume size contents is =
    sealed (laid [] (map (romfs_part volume size contents is) (sections_of volume is)
    ++ part size [] ∷ []))
    ++ replicate (pad size 1024 - size) 0
