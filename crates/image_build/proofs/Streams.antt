-- What streams is what a build answers.
use Rattle.std.proofs.Common.{◌≡◌, ℕ, List, map, length, refl, sym, ap, subst, ◌∙◌, Result, Ok, OnOk, OnErr, Option}
use Rattle.std.proofs.Common.{◌⊎◌, inl, inr}
use Rattle.std.proofs.lemmas.List.{length-map}
use Rattle.std.specs.Io.KnownBytes.{Appends}
use Rattle.rom_fields.specs.Written.{AppendsPrefix, Output}
use Rattle.image_stream.specs.Answers.{Answer}
use Rattle.image_stream.specs.Outcomes.{Streams, StreamsOnce, SourcesState}
use Rattle.image_stream.specs.Segments.{Form}
use Rattle.image_stream.specs.Sources.{IfKnown}
use Rattle.image_stream.specs.declared.error.StreamError.{StreamError}
use Rattle.cramfs_format.specs.declared.order.Order.{Order}
use Rattle.cramfs_format.specs.declared.order.Order.TheVariants.{Little, Big}
use Rattle.manifest_layout.specs.Plans.{Planned, IsPlanOf}
use Rattle.manifest.specs.Grammar.{IsManifest}
use Rattle.manifest.specs.Lines.{ManifestLines}
use Rattle.formats.specs.Format.{Format, cramfs}
use Rattle.manifest_layout.specs.Format.{layout_of}
use Rattle.manifest_layout.specs.Misfit.{HasNoMisfit}
use Rattle.formats.specs.Format.{format_of}
use Rattle.formats.specs.declared.format.Format as code
use Rattle.formats.specs.declared.format.Format.TheVariants.{Cramfs, CramfsBig}
use Rattle.image_stream.proofs.Results.{ok_weaker, err_weaker}
use Rattle.image_build.specs.Builds.{Builds, IsGiven}
use Rattle.image_build.specs.Streamed.{IsPlanOfText}
use Rattle.image_build.proofs.Answered.{IsLaid, image_of}

-- both are cramfs
pub in_cramfs : (f : code.Format) → (f ≡ Cramfs) ⊎ (f ≡ CramfsBig) → (o : Order) × (format_of f ≡ cramfs o)
in_cramfs f (inl e) = (Little, ap format_of e)
in_cramfs f (inr e) = (Big, ap format_of e)

-- the plan, in a format that is known
pub planned_in : (f : Format) (p : Planned) (text : List ℕ) → p.format ≡ f → (is : IsPlanOfText text p)
    → IsPlanOf f is.lines p.sizes p
planned_in f p text e is = subst (λ (g : Format). IsPlanOf g is.lines p.sizes p) e is.planned

abbrev pub HoldsAll : Type 0
HoldsAll = (f : Format) (m : ManifestLines) (cs : List (List ℕ)) → IsManifest m → HasNoMisfit f m (map length cs)
    → IsLaid f m cs

-- the layout of contents of the planned sizes is what a build answers
pub built : HoldsAll → (f : Format) (p : Planned) (text : List ℕ) (cs : List (List ℕ)) → p.format ≡ f
    → (is : IsPlanOfText text p) → map length cs ≡ p.sizes
    → Builds p.format text cs (Ok (layout_of f is.lines cs))
built law f p text cs e is s =
    let m : ManifestLines = is.lines in
    let fits : HasNoMisfit p.format m (map length cs) =
    subst (λ (z : List ℕ). HasNoMisfit p.format m z) (sym s) is.planned.fits in
    let n : length cs ≡ length p.sizes = sym (length-map cs length) ∙ ap (λ (z : List ℕ). length z) s in
    let given : IsGiven text cs m = record { manifest = is.manifest; count = n ∙ is.count } in
    subst (λ (g : Format). Builds p.format text cs (Ok (layout_of g m cs))) e
    (m, given, fits, image_of p.format m cs (layout_of p.format m cs) refl (law p.format m cs (text, is.manifest) fits))

pub whole : {A E : Type 0} → HoldsAll
    → (r : Result A E) (known : Option (List (List ℕ))) (f : Format) (p : Planned) (text : List ℕ)
    (old new : Option (List ℕ)) → p.format ≡ f → (is : IsPlanOfText text p)
    → OnOk r (IfKnown known (λ cs. (map length cs ≡ p.sizes) × Appends old new (layout_of f is.lines cs)))
    → OnOk r (IfKnown known (λ cs. (bytes : List ℕ) × Builds p.format text cs (Ok bytes) × Appends old new bytes))
whole law r known f p text old new e is =
    ok_weaker r (λ h cs t. (layout_of f is.lines cs, built law f p text cs e is (h cs t).0, (h cs t).1))

pub front : {A E : Type 0} → HoldsAll
    → (r : Result A E) (known : Option (List (List ℕ))) (f : Format) (p : Planned) (text : List ℕ)
    (old new : Option (List ℕ)) → p.format ≡ f → (is : IsPlanOfText text p)
    → OnErr r (IfKnown known (λ cs. map length cs ≡ p.sizes → AppendsPrefix old new (layout_of f is.lines cs)))
    → OnErr r (IfKnown known (λ cs. map length cs ≡ p.sizes
    → (bytes : List ℕ) × Builds p.format text cs (Ok bytes) × AppendsPrefix old new bytes))
front law r known f p text old new e is =
    err_weaker r (λ h cs t s. (layout_of f is.lines cs, built law f p text cs e is s, h cs t s))

-- a stream that replaces nothing promises at least as much
pub once_of : {A : Type 0} (f : Form) (stored : List ℕ → ℕ) (s s' : SourcesState) (was is : List Answer → Type 0)
    (w w' : Output) (r : Result A StreamError) → Streams f stored s s' was is w w' r
    → StreamsOnce f stored s s' was is w w' r
once_of f stored s s' was is w w' r h = record {
  known = h.known;
  files = h.files;
  names = h.names;
  some = h.some;
  sized = h.sized;
  whole = h.whole;
  quiet = h.quiet;
  fault = h.fault;
}
