-- `IsCompact`: between the sections of a manifest's layout is no room that alignment does not need.
-- `source_align`: the alignment of a source. (This project's own.)
use Rattle.std.specs.Prelude.{ℕ, ◌==◌, ◌&&◌, Bool, List, find, Option, Some, None}
use Rattle.manifest.specs.declared.line.Line.{Line}
use Rattle.manifest.specs.Lines.{ManifestLines, is_file}
use Rattle.manifest_tree.specs.Tree.{sources_before}
use Rattle.formats.specs.Format.{Format, romfs, cramfs}
use Rattle.manifest_layout.specs.Format.{items_of, len_of, sections_of}
use Rattle.romfs_layout.specs.Compact as of_romfs
use Rattle.cramfs_layout.specs.Compact as of_cramfs

-- the `file` line of a source
abbrev pub is_source : List Line → ℕ → Line → Bool
is_source all k y = is_file y.word && (sources_before y.number all == k)

abbrev pub align_or : Option Line → ℕ
align_or None = 4
align_or (Some y) = y.align

-- its ALIGN
abbrev pub source_align : List Line → ℕ → ℕ
source_align all k = align_or (find (is_source all k) all)

abbrev pub IsCompact : Format → ManifestLines → List ℕ → Type 0
IsCompact romfs m sizes =
    of_romfs.AreCompact (source_align m.lines) (items_of romfs m sizes) 0 (len_of romfs m sizes)
    (sections_of romfs m sizes)
IsCompact (cramfs o) m sizes =
    of_cramfs.AreCompact (source_align m.lines) 0 (len_of (cramfs o) m sizes)
    (sections_of (cramfs o) m sizes)
