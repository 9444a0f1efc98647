-- `HaveAlignments`: the alignments for which files ask. (This project's own.)
use Rattle.std.specs.Prelude.{◌≡◌, ℕ}
use Rattle.manifest_tree.specs.Names.{Fill, no_bytes, text, source, Names, nothing, leaf, link}
use Rattle.manifest_tree.specs.Names.{subdirectory}

-- the alignment of these bytes: `align` of a source, and 4 if they are of none
abbrev pub align_by : (ℕ → ℕ) → Fill → ℕ
align_by align no_bytes = 4
align_by align (text t) = 4
align_by align (source k) = align k

-- each file asks for the alignment of its bytes
abbrev pub HaveAlignments : (ℕ → ℕ) → Names → Type 0
HaveAlignments align nothing = Unit {0}
HaveAlignments align (leaf name i after) =
    (i.align ≡ align_by align i.fill) × HaveAlignments align after
HaveAlignments align (link name i after) = HaveAlignments align after
HaveAlignments align (subdirectory name i own after) =
    HaveAlignments align own × HaveAlignments align after
