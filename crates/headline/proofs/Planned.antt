-- The bytes of each file with the contents of a source are where a section of the plan is.
use Rattle.std.proofs.Common.{◌≡◌, ◌≢◌, ℕ, List, inl, inr, length, map, Some, subst, sym, ◌∙◌}
use Rattle.rom_tree.specs.declared.types.Kind.TheVariants.{Regular}
use Rattle.rom_tree.specs.declared.types.Limits.{Limits}
use Rattle.rom_tree.specs.Tree.{Node}
use Rattle.cramfs_format.specs.Tree.{tree_of as tree_in_cramfs}
use Rattle.cramfs_layout.specs.Layout as of_cramfs
use Rattle.cramfs_layout.proofs.Image as cramfs_image
use Rattle.cramfs_layout.proofs.Whole.{all_spots}
use Rattle.romfs_layout.specs.Layout.{layout}
use Rattle.romfs_layout.specs.Planned.{IsPlanned}
use Rattle.romfs_layout.proofs.Image as romfs_image
use Rattle.romfs_layout.proofs.Shaped.{bytes_in}
use Rattle.formats.specs.Format.{Format, romfs, cramfs}
use Rattle.image_build.specs.Accepted.{usual}
use Rattle.image_check.specs.Checked.{HasTree}
use Rattle.manifest.specs.Grammar.{IsManifest}
use Rattle.manifest.specs.Lines.{ManifestLines}
use Rattle.manifest_layout.specs.Format.{IsPlannedBy, layout_of, sections_of}
use Rattle.manifest_layout.specs.Misfit.{HasNoMisfit}
use Rattle.manifest_layout.proofs.Sourced.{align_of, sourced}
use Rattle.manifest_tree.specs.Names.{Inode, Names, source}
use Rattle.manifest_tree.specs.Shape.{node_under}
use Rattle.manifest_tree.specs.Tree.{file_named, root_of, tree_of}
use Rattle.manifest_tree.proofs.Law.{law_of_names}
use Rattle.headline.proofs.InCramfsPlan.{planned_in_cramfs}
use Rattle.headline.proofs.InRomfsPlan.{planned_in_romfs}
use Rattle.headline.proofs.Reached.{HavePaths, paths_in_cramfs, paths_in_romfs}
use Rattle.headline.proofs.Sections.{IsAtSection}

-- what a lower law says
abbrev pub HasOneTree : Type 0
HasOneTree =
    (all : List ℕ) (limits others : Limits) (t u : Node) → HasTree all limits t → HasTree all others u → t ≡ u

-- each file of a tree with the contents of a source, and with bytes
abbrev pub AreAtSections : Format → ManifestLines → List ℕ → Node → Type 0
AreAtSections f m sizes t =
    (q : List (List ℕ)) (x : Node) (i : Inode) (k : ℕ) → node_under q t ≡ Some x
    → file_named m.lines sizes q ≡ Some i → i.kind ≡ Regular → i.size ≢ 0 → i.fill ≡ source k
    → IsAtSection (sections_of f m sizes) i.size k x

-- the tree of a romfs layout
pub one_in_romfs : HasOneTree → (volume : List ℕ) (root : Inode) (n : Names) (cs : List (List ℕ)) (t : Node)
    → IsPlanned volume root n cs → HasTree (layout volume root n cs) usual t
    → t ≡ romfs_image.tree_in (bytes_in volume root n cs) volume n
one_in_romfs one volume root n cs t h tree =
    one (layout volume root n cs) usual usual t (romfs_image.tree_in (bytes_in volume root n cs) volume n) tree
    (inl (romfs_image.has_tree volume root n cs h))

pub at_sections : HasOneTree → (f : Format) (m : ManifestLines) (cs : List (List ℕ)) (t : Node) → IsManifest m
    → HasNoMisfit f m (map length cs) → IsPlannedBy f m cs → HasTree (layout_of f m cs) usual t
    → AreAtSections f m (map length cs) t
at_sections one romfs m cs t is fits h tree q x i k under named kind z fill =
    let sizes = map length cs in
    let root = root_of m.lines sizes in
    let n = tree_of m.lines sizes in
    let same = one_in_romfs one m.volume root n cs t h tree in
    planned_in_romfs m.volume root n cs h q x i k (subst (λ (v : Node). node_under q v ≡ Some x) same under)
    (law_of_names m sizes q is ∙ named) kind z fill
at_sections one (cramfs o) m cs t is fits h tree q x i k under named kind z fill =
    let sizes = map length cs in
    let root = root_of m.lines sizes in
    let n = tree_of m.lines sizes in
    let u : Node = tree_in_cramfs o (of_cramfs.layout o m.volume root n cs) (all_spots n) in
    let same : t ≡ u =
    one (layout_of (cramfs o) m cs) usual usual t u tree (inr (o, cramfs_image.has_tree o m.volume root n cs h)) in
    planned_in_cramfs o m.volume root n cs (align_of m.lines) h (sourced (cramfs o) m sizes is fits) q x i k
    (subst (λ (v : Node). node_under q v ≡ Some x) same under) (law_of_names m sizes q is ∙ named) kind z fill

pub all_have_paths : HasOneTree → (f : Format) (m : ManifestLines) (cs : List (List ℕ)) (t : Node) → IsPlannedBy f m cs
    → HasTree (layout_of f m cs) usual t → HavePaths t
all_have_paths one romfs m cs t h tree =
    let root = root_of m.lines (map length cs) in
    let n = tree_of m.lines (map length cs) in
    subst HavePaths (sym (one_in_romfs one m.volume root n cs t h tree))
    (paths_in_romfs (bytes_in m.volume root n cs) m.volume n cs h.well)
all_have_paths one (cramfs o) m cs t h tree =
    let root = root_of m.lines (map length cs) in
    let n = tree_of m.lines (map length cs) in
    let u : Node = tree_in_cramfs o (of_cramfs.layout o m.volume root n cs) (all_spots n) in
    subst HavePaths
    (one (layout_of (cramfs o) m cs) usual usual u t (inr (o, cramfs_image.has_tree o m.volume root n cs h)) tree)
    (paths_in_cramfs o m.volume root n cs h)
