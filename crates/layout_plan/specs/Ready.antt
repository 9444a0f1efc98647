-- `IsReady`: the results of a plan's first steps: the volume, the root and the rows of a manifest
-- whose lines fit. (This project's own.)
use Rattle.std.specs.Prelude.{◌≡◌, ℕ, List}
use Rattle.record_forest.specs.Faults.{IsNone}
use Rattle.manifest.specs.Grammar.{IsManifest}
use Rattle.manifest.specs.Lines.{ManifestLines}
use Rattle.formats.specs.Format.{Format}
use Rattle.manifest_layout.specs.Misfit.{HasLineMisfit}
use Rattle.manifest_tree.specs.Names.{Inode}
use Rattle.manifest_tree.specs.Tree.{tree_of, root_of}
use Rattle.plan_rows.specs.Rows.{Row, rows}

-- these are the volume, the root and the rows of a manifest whose lines fit
pub record IsReady (f : Format) (m : ManifestLines) (sizes volume : List ℕ) (root : Inode)
    (rs : List Row) : Type 0 where
  pub manifest : IsManifest m
  pub lines : IsNone (HasLineMisfit f m sizes)
  pub volume_is : volume ≡ m.volume
  pub root_is : root ≡ root_of m.lines sizes
  pub rows_are : rs ≡ rows 1 (tree_of m.lines sizes)
