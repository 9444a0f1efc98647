-- `layout_of`, `len_of`: the layout of a manifest in a format, and its length. `HasUsualTree`: the
-- tree that the format defines for bytes, under the usual limits. `items_of`, `sections_of`: by
-- format. (This project's own.)
use Rattle.std.specs.Prelude.{◌^◌, map, ℕ, List, length}
use Rattle.formats.specs.Format.{Format, romfs, cramfs}
use Rattle.manifest.specs.Lines.{ManifestLines}
use Rattle.manifest_tree.specs.Tree.{tree_of, root_of}
use Rattle.rom_fields.specs.Padding.{pad}
use Rattle.manifest_tree.specs.Items.{Item, Section}
use Rattle.romfs_layout.specs.Layout as of_romfs
use Rattle.romfs_layout.specs.Items as romfs_items
use Rattle.cramfs_layout.specs.Layout as of_cramfs
use Rattle.cramfs_layout.specs.Items as cramfs_items
use Rattle.romfs_layout.specs.Planned as of_romfs_planned
use Rattle.cramfs_layout.specs.Planned as of_cramfs_planned
use Rattle.rom_tree.specs.Tree.{Node}
use Rattle.romfs_format.specs.Tree.{RomfsTree}
use Rattle.cramfs_format.specs.Tree.{CramfsTree}

-- the length of the image, if the sources have these sizes
abbrev pub len_of : Format → ManifestLines → List ℕ → ℕ
len_of romfs m sizes =
    pad (of_romfs.full_size_of (of_romfs.root_at m.volume) (tree_of m.lines sizes)) 1024
len_of (cramfs o) m sizes = of_cramfs.size_of (tree_of m.lines sizes)

-- its items and its sections
abbrev pub items_of : Format → ManifestLines → List ℕ → List Item
items_of romfs m sizes =
    romfs_items.items_of m.volume (root_of m.lines sizes) (tree_of m.lines sizes)
items_of (cramfs o) m sizes =
    cramfs_items.items_of o (root_of m.lines sizes) (tree_of m.lines sizes)

abbrev pub sections_of : Format → ManifestLines → List ℕ → List Section
sections_of romfs m sizes = romfs_items.sections_of m.volume (items_of romfs m sizes)
sections_of (cramfs o) m sizes = cramfs_items.sections_of (items_of (cramfs o) m sizes)

-- the bytes of the image, if the sources have these contents
abbrev pub layout_of : Format → ManifestLines → List (List ℕ) → List ℕ
layout_of romfs m contents =
    of_romfs.layout m.volume (root_of m.lines (map length contents))
    (tree_of m.lines (map length contents)) contents
layout_of (cramfs o) m contents =
    of_cramfs.layout o m.volume (root_of m.lines (map length contents))
    (tree_of m.lines (map length contents)) contents

-- the number of references that a check of the image follows, one for each record
abbrev pub references_of : Format → ManifestLines → List ℕ → ℕ
references_of f m sizes = length (items_of f m sizes)

-- the bytes hold this tree, under the usual limits
abbrev pub HasUsualTree : Format → List ℕ → Node → Type 0
HasUsualTree romfs bytes t = RomfsTree bytes (2 ^ 20) 64 t
HasUsualTree (cramfs o) bytes t = CramfsTree o bytes (2 ^ 20) 64 t

-- the manifest's volume can be laid out
abbrev pub IsPlannedBy : Format → ManifestLines → List (List ℕ) → Type 0
IsPlannedBy romfs m contents =
    of_romfs_planned.IsPlanned m.volume (root_of m.lines (map length contents))
    (tree_of m.lines (map length contents))
    contents
IsPlannedBy (cramfs o) m contents =
    of_cramfs_planned.IsPlanned m.volume (root_of m.lines (map length contents))
    (tree_of m.lines (map length contents))
    contents
