use Rattle.std.proofs.Common.{◌≡◌, List, ℕ, map, length}
use Rattle.manifest.specs.Grammar.{IsManifest}
use Rattle.manifest.specs.Lines.{ManifestLines}
use Rattle.manifest_tree.specs.Tree.{root_of, tree_of}
use Rattle.manifest_layout.specs.Composed.{composed_of}
use Rattle.formats.specs.Format.{Format, romfs, cramfs}
use Rattle.manifest_layout.specs.Format.{layout_of}
use Rattle.manifest_layout.specs.Misfit.{HasNoMisfit}
use Rattle.manifest_layout.proofs.Sourced.{align_of, sourced}
use Rattle.manifest_layout.proofs.laws.sections_make_layout.Goals as goal

pub returns : goal.returns
returns c = by
  where
    by : (f : Format) (m : ManifestLines) (cs : List (List ℕ)) → IsManifest m → HasNoMisfit f m (map length cs)
        → layout_of f m cs ≡ composed_of f m cs
    by romfs m cs h n =
        let sizes = map length cs in
        c.sections_make_layout.ensures.bytes m.volume (root_of m.lines sizes) (tree_of m.lines sizes) cs
        (c.fitting_is_planned.ensures romfs m cs h n)
    by (cramfs o) m cs h n =
        let sizes = map length cs in
        c.sections_make_layout-2.ensures.bytes o m.volume (root_of m.lines sizes) (tree_of m.lines sizes) cs
        (align_of m.lines)
        (c.fitting_is_planned.ensures (cramfs o) m cs h n) (sourced (cramfs o) m sizes h n)
