use Rattle.std.proofs.Common.{List, ℕ, map, length}
use Rattle.manifest.specs.Grammar.{IsManifest}
use Rattle.manifest.specs.Lines.{ManifestLines}
use Rattle.manifest_tree.specs.Meant.{IsMeant}
use Rattle.manifest_tree.specs.Tree.{root_of, tree_of}
use Rattle.rom_tree.specs.Tree.{Node}
use Rattle.formats.specs.Format.{Format, romfs, cramfs}
use Rattle.manifest_layout.specs.Format.{HasUsualTree, layout_of}
use Rattle.manifest_layout.specs.Misfit.{HasNoMisfit}
use Rattle.manifest_layout.proofs.laws.layout_is_meant.Goals as goal

pub returns-clause-tree : goal.returns-clause-tree
returns-clause-tree c = by
  where
    by : (f : Format) (m : ManifestLines) (cs : List (List ℕ)) → IsManifest m → HasNoMisfit f m (map length cs)
        → (t : Node) × HasUsualTree f (layout_of f m cs) t × IsMeant (layout_of f m cs) t cs m (map length cs)
    by romfs m cs h n =
        let sizes = map length cs in
        let t = c.layout_has_tree.ensures m.volume (root_of m.lines sizes) (tree_of m.lines sizes) cs
        (c.fitting_is_planned.ensures romfs m cs h n) in
        (t.0, t.1, c.shape_is_meant.ensures (layout_of romfs m cs) t.0 cs m sizes h t.2)
    by (cramfs o) m cs h n =
        let sizes = map length cs in
        let t = c.layout_has_tree-2.ensures o m.volume (root_of m.lines sizes) (tree_of m.lines sizes) cs
        (c.fitting_is_planned.ensures (cramfs o) m cs h n) in
        (t.0, t.1, c.shape_is_meant.ensures (layout_of (cramfs o) m cs) t.0 cs m sizes h t.2)
