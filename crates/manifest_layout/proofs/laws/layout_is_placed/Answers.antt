use Rattle.std.proofs.Common.{List, ℕ, map, length}
use Rattle.manifest.specs.Grammar.{IsManifest}
use Rattle.manifest.specs.Lines.{ManifestLines}
use Rattle.manifest_tree.specs.Tree.{root_of, tree_of}
use Rattle.rom_tree.specs.Tree.{Node}
use Rattle.formats.specs.Format.{Format, romfs, cramfs}
use Rattle.manifest_layout.specs.Format.{HasUsualTree, layout_of}
use Rattle.manifest_layout.specs.Misfit.{HasNoMisfit}
use Rattle.manifest_layout.specs.Placement.{CopiesStand, HasVolume, IsPlaced}
use Rattle.manifest_layout.proofs.Placing.{placed, files_apart, files_shared, named_in_cramfs}
use Rattle.manifest_layout.proofs.Sourced.{align_of, sourced}
use Rattle.manifest_layout.proofs.laws.layout_is_placed.Goals as goal

pub returns-clause-runs : goal.returns-clause-runs
returns-clause-runs c = by
  where
    by : (f : Format) (m : ManifestLines) (cs : List (List ℕ)) → IsManifest m → HasNoMisfit f m (map length cs)
        → (t : Node) × HasUsualTree f (layout_of f m cs) t × IsPlaced t m
    by romfs m cs h n =
        let sizes = map length cs in
        let t = c.layout_is_placed.ensures.runs m.volume (root_of m.lines sizes) (tree_of m.lines sizes) cs
        (c.fitting_is_planned.ensures romfs m cs h n) in
        (t.0, t.1, placed m sizes t.0 h t.2)
    by (cramfs o) m cs h n =
        let sizes = map length cs in
        let t = c.layout_is_placed-2.ensures.runs o m.volume (root_of m.lines sizes) (tree_of m.lines sizes) cs
        (align_of m.lines) (c.fitting_is_planned.ensures (cramfs o) m cs h n) (sourced (cramfs o) m sizes h n) in
        (t.0, t.1, placed m sizes t.0 h t.2)

pub returns-clause-copies : goal.returns-clause-copies
returns-clause-copies c = by
  where
    by : (f : Format) (m : ManifestLines) (cs : List (List ℕ)) → IsManifest m → HasNoMisfit f m (map length cs)
        → (t : Node) × HasUsualTree f (layout_of f m cs) t × CopiesStand f t m
    by romfs m cs h n =
        let sizes = map length cs in
        let t = c.layout_is_placed.ensures.apart m.volume (root_of m.lines sizes) (tree_of m.lines sizes) cs
        (c.fitting_is_planned.ensures romfs m cs h n) in
        (t.0, t.1, files_apart m sizes t.0 h t.2)
    by (cramfs o) m cs h n =
        let sizes = map length cs in
        let t = c.layout_is_placed-2.ensures.shared o m.volume (root_of m.lines sizes) (tree_of m.lines sizes) cs
        (c.fitting_is_planned.ensures (cramfs o) m cs h n) in
        (t.0, t.1, files_shared m sizes t.0 h t.2)

pub returns-clause-named : goal.returns-clause-named
returns-clause-named c = by
  where
    by : (f : Format) (m : ManifestLines) (cs : List (List ℕ)) → IsManifest m → HasNoMisfit f m (map length cs)
        → HasVolume f (layout_of f m cs) m.volume
    by romfs m cs h n =
        let sizes = map length cs in
        c.layout_is_placed.ensures.named m.volume (root_of m.lines sizes) (tree_of m.lines sizes) cs
        (c.fitting_is_planned.ensures romfs m cs h n)
    by (cramfs o) m cs h n =
        let sizes = map length cs in
        named_in_cramfs (cramfs o) m sizes (layout_of (cramfs o) m cs) h n
        (c.layout_is_placed-2.ensures.named o m.volume (root_of m.lines sizes) (tree_of m.lines sizes) cs
        (c.fitting_is_planned.ensures (cramfs o) m cs h n))
