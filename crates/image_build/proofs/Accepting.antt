-- What was streamed has a tree, which is what the manifest means with the contents of each line.
use Rattle.std.proofs.Common.{◌≡◌, ℕ, ◌^◌, List, [], map, length, get_or, refl, sym, subst, ◌∙◌, inl, inr, Ok}
use Rattle.rom_tree.specs.Tree.{Node}
use Rattle.cramfs_format.specs.declared.order.Order.{Order}
use Rattle.manifest.specs.Grammar.{IsManifest}
use Rattle.manifest.specs.Lines.{ManifestLines}
use Rattle.manifest_tree.specs.Meant.{IsMeant}
use Rattle.manifest_tree.specs.Names.{Inode, Names}
use Rattle.manifest_tree.specs.Shape.{HasShape}
use Rattle.manifest_tree.specs.Tree.{tree_of, root_of}
use Rattle.formats.specs.Format.{Format, romfs, cramfs}
use Rattle.manifest_layout.specs.Misfit.{HasNoMisfit}
use Rattle.image_check.specs.Checked.{HasTree}
use Rattle.image_stream.specs.Sources.{content_of}
use Rattle.image_stream.specs.Segments.{Form, checked}
use Rattle.manifest_layout.specs.Plans.{Planned}
use Rattle.manifest_layout.proofs.Sized.{Fitting}
use Rattle.romfs_format.specs.Tree.{RomfsTree}
use Rattle.romfs_layout.specs.Layout.{layout}
use Rattle.romfs_layout.specs.Planned as romfs_planned
use Rattle.cramfs_layout.specs.Planned as cramfs_planned
use Rattle.image_build.specs.Accepted.{usual}
use Rattle.image_build.specs.Builds.{Builds}
use Rattle.image_build.specs.Each.{IsMeantEach}
use Rattle.image_build.specs.Streamed.{IsPlanOfText, form_in, stored_in, image_with}
use Rattle.image_build.proofs.Bodies.{IsOf}
use Rattle.image_build.proofs.Given.{given_or_lacks, lacking}
use Rattle.image_build.proofs.Streams.{HoldsAll, planned_in}
use Rattle.image_build.proofs.Unknown.{IsBuiltOf, in_format}
use Rattle.image_build.proofs.Owned.{own_file, own_names}
use Rattle.image_build.proofs.Each.{IsOfFiles, each_of_plan}
use Rattle.image_build.proofs.Meaning.{Leads, IsGivenEach, bytes_at, meant_of_own, meant_of_sources, given_of_own}
use Rattle.image_build.proofs.Meaning.{at_source, same_source}

-- a tree, and what it is
abbrev pub IsLaidEach : (G : ℕ → List ℕ → Type 0) (text : List ℕ) (p : Planned) → IsPlanOfText text p → List ℕ → Type 0
IsLaidEach G text p is bytes =
    (t : Node) × HasTree bytes usual t
    × ((b : ℕ → List ℕ) × IsMeantEach bytes t b is.lines p.sizes × IsGivenEach G b is.lines p.sizes)

abbrev pub HasOneTree : List ℕ → Type 0
HasOneTree bytes = (t u : Node) → HasTree bytes usual t → HasTree bytes usual u → t ≡ u

abbrev pub RomfsHold : Type 0
RomfsHold = (volume : List ℕ) (root : Inode) (n : Names) (cs : List (List ℕ)) → romfs_planned.IsPlanned volume root n cs
    → (t : Node) × RomfsTree (layout volume root n cs) (2 ^ 20) 64 t × HasShape (layout volume root n cs) t cs root n

-- the tree of a cramfs image of some contents
meant_by : (o : Order) (text : List ℕ) (p : Planned) (is : IsPlanOfText text p) (bytes : List ℕ) (cs : List (List ℕ))
    → p.format ≡ cramfs o → map length cs ≡ p.sizes
    → Builds p.format text cs (Ok bytes) → (t : Node) × HasTree bytes usual t × IsMeant bytes t cs is.lines p.sizes
meant_by o text p is bytes cs e sized b =
    let built : Builds (cramfs o) text cs (Ok bytes) = subst (λ (f : Format). Builds f text cs (Ok bytes)) e b in
    let m = is.lines in
    let same : built.0 ≡ m = (let z = sym built.1.manifest ∙ is.manifest in cc) in (
      built.3.tree,
      inr (o, built.3.holds),
      subst (IsMeant bytes built.3.tree cs m) sized
          (subst (λ (k : ManifestLines). IsMeant bytes built.3.tree cs k (map length cs)) same built.3.meant),
    )

of_sources : (G : ℕ → List ℕ → Type 0) → ((k : ℕ) → G k []) → Fitting → Leads
    → (o : Order) (text : List ℕ) (p : Planned) (is : IsPlanOfText text p) (bytes : List ℕ) (form : Form)
    → HasOneTree bytes → p.format ≡ cramfs o
    → IsBuiltOf G text p form bytes → IsLaidEach G text p is bytes
of_sources G none fitting leads o text p is bytes form one e found =
    let b = found.built in
    let m = is.lines in
    let cs = b.contents in
    let hm : IsManifest m = (text, is.manifest) in
    let x = meant_by o text p is bytes cs e b.sized b.built in
    let plan = planned_in (cramfs o) p text e is in
    let fits = subst (λ (ns : List ℕ). cramfs_planned.IsPlanned m.volume (root_of m.lines ns)
    (tree_of m.lines ns) cs) b.sized (fitting (cramfs o) m cs hm
    (subst (λ (ns : List ℕ). HasNoMisfit (cramfs o) m ns) (sym b.sized) plan.fits)) in
    let all : IsGivenEach G (bytes_at cs (tree_of m.lines p.sizes)) m p.sizes = λ q i k named fill.
    let there : G k (content_of cs k) = elim (given_or_lacks G cs k form.segments found.given) [
      | inl z ↦ z
      | inr z ↦
          let empty : content_of cs k ≡ [] = lacking cs k form.start form.segments form.end z (λ ds s image.
          let sized : map length ds ≡ p.sizes = s ∙ b.sized in
          let y = meant_by o text p is bytes ds e sized (found.others ds sized image) in
          let other : IsMeant bytes x.0 ds m p.sizes =
          subst (λ (t : Node). IsMeant bytes t ds m p.sizes) (one y.0 x.0 y.1 x.1) y.2 in
          same_source m p.sizes bytes x.0 cs ds x.2 other q i k named fill) in
          subst (G k) (sym empty) (none k)
    ] in subst (G k) (sym (at_source leads m p.sizes cs hm fits q i k named fill)) there in
    (x.0, x.1, (bytes_at cs (tree_of m.lines p.sizes), meant_of_sources leads m p.sizes bytes x.0 cs hm fits x.2, all))

-- the tree of a romfs image, each of whose files has contents of its own
pub files_meant : (G : ℕ → List ℕ → Type 0) → RomfsHold → Leads
    → (text : List ℕ) (p : Planned) (is : IsPlanOfText text p) (bytes : List ℕ)
    → (f : IsOfFiles G is.lines.volume (root_of is.lines.lines p.sizes) (tree_of is.lines.lines p.sizes) bytes)
    → (t : Node) × RomfsTree bytes (2 ^ 20) 64 t
    × IsMeantEach bytes t (λ line. get_or f.contents line []) is.lines p.sizes
    × IsGivenEach G (λ line. get_or f.contents line []) is.lines p.sizes
files_meant G holds leads text p is bytes f =
    let m = is.lines in
    let hm : IsManifest m = (text, is.manifest) in
    let root = own_file (root_of m.lines p.sizes) in
    let n = own_names (tree_of m.lines p.sizes) in
    let x = holds m.volume root n f.contents f.planned in
    let tree = subst (λ (b : List ℕ). RomfsTree b (2 ^ 20) 64 x.0) (sym f.is) x.1 in
    let shape = subst (λ (b : List ℕ). HasShape b x.0 f.contents root n) (sym f.is) x.2 in (
      x.0,
      tree,
      meant_of_own leads m p.sizes bytes x.0 f.contents hm f.bare f.own f.links shape,
      given_of_own G leads m p.sizes f.contents hm f.bare f.read f.links,
    )

-- the bytes that are streamed in romfs are such an image
pub files_in_romfs : Fitting → (text : List ℕ) (p : Planned) (is : IsPlanOfText text p) (G : ℕ → List ℕ → Type 0)
    → ((k : ℕ) → G k []) → (f : Format) → p.format ≡ f → f ≡ romfs → (rest : List ℕ)
    → IsOf G (form_in f p).start (form_in f p).segments (form_in f p).end rest
    → IsOfFiles G is.lines.volume (root_of is.lines.lines p.sizes) (tree_of is.lines.lines p.sizes)
    (checked (form_in f p).head (stored_in f) rest)
files_in_romfs fitting text p is G none romfs e z rest h =
    each_of_plan fitting p is.lines (text, is.manifest) is.count (planned_in romfs p text e is) G none rest h
files_in_romfs fitting text p is G none (cramfs o) e z rest h = absurd (cc)

module _ (fitting : Fitting) (law : HoldsAll) (holds : RomfsHold) (leads : Leads) (text : List ℕ) (p : Planned)
    (is : IsPlanOfText text p)
    (G : ℕ → List ℕ → Type 0) (none : (k : ℕ) → G k []) where
  by_format : (f : Format) → p.format ≡ f → (rest : List ℕ) → HasOneTree (checked (form_in f p).head (stored_in f) rest)
      → IsOf G (form_in f p).start (form_in f p).segments (form_in f p).end rest
      → IsLaidEach G text p is (checked (form_in f p).head (stored_in f) rest)
  by_format romfs e rest one h =
      let f = files_in_romfs fitting text p is G none romfs e refl rest h in
      let x = files_meant G holds leads text p is _ f in
      (x.0, inl x.1, ((λ line. get_or f.contents line []), x.2, x.3))
  by_format (cramfs o) e rest one h =
      of_sources G none fitting leads o text p is _ (form_in (cramfs o) p) one e
      (in_format fitting law text p is (cramfs o) e tt G rest h)

  pub laid_each : (rest : List ℕ) → HasOneTree (image_with p rest)
      → IsOf G (form_in p.format p).start (form_in p.format p).segments (form_in p.format p).end rest
      → IsLaidEach G text p is (image_with p rest)
  laid_each rest one h = by_format p.format refl rest one h

-- whichever tree the bytes have
pub each_tree : (G : ℕ → List ℕ → Type 0) (text : List ℕ) (p : Planned) (is : IsPlanOfText text p) (bytes : List ℕ)
    → HasOneTree bytes → IsLaidEach G text p is bytes
    → (t : Node) → HasTree bytes usual t
    → (b : ℕ → List ℕ) × IsMeantEach bytes t b is.lines p.sizes × IsGivenEach G b is.lines p.sizes
each_tree G text p is bytes one x t h =
    subst (λ (u : Node). (b : ℕ → List ℕ) × IsMeantEach bytes u b is.lines p.sizes × IsGivenEach G b is.lines p.sizes)
    (one x.0 t x.1 h) x.2
