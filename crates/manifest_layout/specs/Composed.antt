-- `composed_of`: the layout of a manifest, composed of its sections. Each is at its offset, zeros
-- are between them, and the superblock has the format's checksum. (This project's own.)
use Rattle.std.specs.Prelude.{map, ℕ, List, length}
use Rattle.cramfs_layout.specs.Composed as of_cramfs
use Rattle.cramfs_layout.specs.Layout.{size_of, superblock}
use Rattle.manifest.specs.Lines.{ManifestLines}
use Rattle.formats.specs.Format.{Format, romfs, cramfs}
use Rattle.manifest_layout.specs.Format.{items_of}
use Rattle.manifest_tree.specs.Tree.{tree_of, root_of}
use Rattle.romfs_layout.specs.Composed as of_romfs
use Rattle.romfs_layout.specs.Layout.{full_size_of, root_at}

abbrev pub composed_of : Format → ManifestLines → List (List ℕ) → List ℕ
composed_of romfs m contents =
    of_romfs.composed m.volume (full_size_of (root_at m.volume)
    (tree_of m.lines (map length contents))) contents
    (items_of romfs m (map length contents))
composed_of (cramfs o) m contents =
    of_cramfs.composed o (superblock o m.volume (root_of m.lines (map length contents))
    (tree_of m.lines (map length contents)))
    (size_of (tree_of m.lines (map length contents))) contents
    (items_of (cramfs o) m (map length contents))
