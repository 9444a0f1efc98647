-- What is known of a built image that was accepted.
use Rattle.std.proofs.Common.{◌≡◌, ℕ, List, map, length, Ok, sym, ap, subst, ◌∙◌}
use Rattle.rom_tree.specs.Tree.{Node}
use Rattle.formats.specs.Format.{Format}
use Rattle.image_build.specs.Accepted.{usual}
use Rattle.image_build.specs.Builds.{Builds}
use Rattle.image_check.specs.Any.{any_view, report_of}
use Rattle.image_check.specs.Checked.{HasTree}
use Rattle.image_check.specs.declared.any.AnyImage.{AnyImage}
use Rattle.manifest.specs.Grammar.{IsManifest, manifest_of}
use Rattle.manifest.specs.Lines.{ManifestLines}
use Rattle.manifest_layout.specs.Format.{IsPlannedBy}
use Rattle.manifest_layout.specs.Misfit.{HasNoMisfit}
use Rattle.manifest_tree.specs.Meant.{IsMeant}
use Rattle.manifest_tree.specs.Names.{no_bytes, source}
use Rattle.manifest_tree.specs.Shape.{file_value}
use Rattle.headline.specs.Programs.{IsAccepted}
use Rattle.headline.proofs.Contents.{length_source, named_sourced}
use Rattle.headline.proofs.Found.{IsKnown, file_bytes, same_format, shown_bytes, shown_tree, usual_tree}
use Rattle.headline.proofs.Planned.{HasOneTree, all_have_paths, at_sections}
use Rattle.headline.proofs.Regular.{file_kind}

-- what a lower law says
abbrev pub FitsPlan : Type 0
FitsPlan =
    (f : Format) (m : ManifestLines) (contents : List (List ℕ)) → IsManifest m → HasNoMisfit f m (map length contents)
    → IsPlannedBy f m contents

known_by : HasOneTree → FitsPlan → (f : Format) (text : List ℕ) (cs : List (List ℕ)) (bytes : List ℕ) (a : AnyImage)
    (x : Builds f text cs (Ok bytes)) → IsAccepted bytes a → IsKnown f x.0 (map length cs) (file_value cs) a
known_by one plan f text cs bytes a x ok =
    let t : Node = (any_view a).tree in
    let is : IsManifest x.0 = (text, x.1.manifest) in
    let tree = shown_tree bytes (any_view a) (report_of a) ok.shows in
    let same = one bytes usual usual x.3.tree t (usual_tree f bytes x.3.tree x.3.holds) tree in
    let meant = subst (λ (v : Node). IsMeant bytes v cs x.0 (map length cs)) same x.3.meant in
    let planned = plan f x.0 cs is x.2 in
    let laid = subst (λ (b : List ℕ). HasTree b usual t) x.3.layout tree in
    record {
      manifest = is;
      format = same_format f bytes x.3.tree a x.3.holds ok.format;
      kinds = file_kind cs;
      bare = λ i e. file_bytes cs i no_bytes e;
      sized = λ path i k named fill.
          ap (λ (b : List ℕ). length b) (file_bytes cs i (source k) fill) ∙ length_source cs k
          ∙ sym ((named_sourced x.0.lines (map length cs) path i named).1 k fill).1;
      values = (subst (λ (b : List ℕ). IsMeant b t cs x.0 (map length cs))
          (sym (shown_bytes bytes (any_view a) (report_of a) ok.shows)) meant).values;
      planned = at_sections one f x.0 cs t is x.2 planned laid;
      paths = all_have_paths one f x.0 cs t planned laid;
    }

pub known : HasOneTree → FitsPlan → (f : Format) (text : List ℕ) (cs : List (List ℕ)) (bytes : List ℕ)
    (m : ManifestLines) (a : AnyImage) → Builds f text cs (Ok bytes) → manifest_of text ≡ Ok m → IsAccepted bytes a
    → IsKnown f m (map length cs) (file_value cs) a
known one plan f text cs bytes m a x e ok =
    let named : Ok x.0 ≡ Ok m = sym x.1.manifest ∙ e in
    let line : x.0 ≡ m = cc in
    subst (λ (k : ManifestLines). IsKnown f k (map length cs) (file_value cs) a) line
    (known_by one plan f text cs bytes a x ok)
