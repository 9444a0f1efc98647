use Rattle.std.proofs.Common.{List, ℕ, map, length}
use Rattle.manifest.specs.Grammar.{IsManifest}
use Rattle.manifest.specs.Lines.{ManifestLines}
use Rattle.manifest_tree.specs.Tree.{root_of, tree_of}
use Rattle.formats.specs.Format.{Format, romfs, cramfs}
use Rattle.manifest_layout.specs.Format.{layout_of}
use Rattle.manifest_layout.specs.Misfit.{HasNoMisfit}
use Rattle.manifest_layout.specs.Sealed.{HasSeal}
use Rattle.manifest_layout.proofs.laws.layout_is_sealed.Goals as goal

pub returns : goal.returns
returns c = by
  where
    by : (f : Format) (m : ManifestLines) (cs : List (List ℕ)) → IsManifest m → HasNoMisfit f m (map length cs)
        → HasSeal f (layout_of f m cs)
    by romfs m cs h n =
        let sizes = map length cs in
        c.layout_is_sealed.ensures m.volume (root_of m.lines sizes) (tree_of m.lines sizes) cs
        (c.fitting_is_planned.ensures romfs m cs h n)
    by (cramfs o) m cs h n =
        let sizes = map length cs in
        c.layout_is_sealed-2.ensures o m.volume (root_of m.lines sizes) (tree_of m.lines sizes) cs
        (c.fitting_is_planned.ensures (cramfs o) m cs h n)
