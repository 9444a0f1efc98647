-- Each text and contents have one answer of a build.
use Rattle.std.proofs.Common.{◌≡◌, ◌≢◌, ℕ, List, map, length, refl, sym, ap, subst, ◌∙◌, inl, inr, ◌⊎◌, Result, Ok, Err}
use Rattle.std.proofs.Common.{Option, Some, None, MatchOption}
use Rattle.std.proofs.lemmas.Bool.Decides.{eqb_tells}
use Rattle.manifest.specs.Grammar.{Fault, manifest_of, IsManifest}
use Rattle.manifest.specs.Lines.{ManifestLines, sources_of}
use Rattle.formats.specs.Format.{Format}
use Rattle.manifest_layout.specs.Format.{HasUsualTree, layout_of}
use Rattle.manifest_layout.specs.Misfit.{HasNoMisfit, IsLeastMisfit}
use Rattle.manifest_tree.specs.Meant.{IsMeant}
use Rattle.rom_fields.specs.declared.fault.Fault as misfit
use Rattle.rom_tree.specs.Tree.{Node}
use Rattle.image_build.specs.Builds.{Builds, IsGiven, IsImageOf}
use Rattle.image_build.specs.declared.error.BuildError.{BuildError}
use Rattle.image_build.specs.declared.error.BuildError.TheVariants.{OutOfMemory, Manifest, Plan, Count}

abbrev pub IsLaid : Format → ManifestLines → List (List ℕ) → Type 0
IsLaid f m cs = (t : Node) × HasUsualTree f (layout_of f m cs) t × IsMeant (layout_of f m cs) t cs m (map length cs)

pub image_of : (f : Format) (m : ManifestLines) (cs : List (List ℕ)) (bytes : List ℕ) → bytes ≡ layout_of f m cs
    → IsLaid f m cs → IsImageOf f m cs bytes
image_of f m cs bytes e x = record {
  layout = e;
  tree = x.0;
  holds = subst (λ (b : List ℕ). HasUsualTree f b x.0) (sym e) x.1;
  meant = subst (λ (b : List ℕ). IsMeant b x.0 cs m (map length cs)) (sym e) x.2;
}

-- an answer that is not of memory
abbrev pub HasAnswer : Format → List ℕ → List (List ℕ) → Type 0
HasAnswer f text cs = (answer : Result (List ℕ) BuildError) × (answer ≢ Err OutOfMemory) × Builds f text cs answer

by_misfit : (f : Format) (text : List ℕ) (cs : List (List ℕ)) (m : ManifestLines) → IsGiven text cs m
    → (HasNoMisfit f m (map length cs) → IsLaid f m cs) → (o : Option misfit.Fault)
    → MatchOption o (HasNoMisfit f m (map length cs)) (IsLeastMisfit f m (map length cs)) → HasAnswer f text cs
by_misfit f text cs m given laid None n =
    (Ok (layout_of f m cs), (λ z. cc), (m, given, n, image_of f m cs (layout_of f m cs) refl (laid n)))
by_misfit f text cs m given laid (Some e) least = (Err (Plan e.at e.number), (λ z. cc), (m, given, least))

module _
    (misfit_of : (f : Format) (m : ManifestLines) (sizes : List ℕ)
    → (o : Option misfit.Fault) × MatchOption o (HasNoMisfit f m sizes) (IsLeastMisfit f m sizes))
    (laid_of : (f : Format) (m : ManifestLines) (cs : List (List ℕ)) → IsManifest m → HasNoMisfit f m (map length cs)
    → IsLaid f m cs)
  where
    by_count : (f : Format) (text : List ℕ) (cs : List (List ℕ)) (m : ManifestLines) → manifest_of text ≡ Ok m
        → (length cs ≡ length (sources_of m.lines)) ⊎ (length cs ≢ length (sources_of m.lines)) → HasAnswer f text cs
    by_count f text cs m is (inl same) =
        let o = misfit_of f m (map length cs) in
        by_misfit f text cs m (record { manifest = is; count = same }) (laid_of f m cs (text, is)) o.0 o.1
    by_count f text cs m is (inr differ) = (Err Count, (λ z. cc), (m, is, differ))

    by_manifest : (f : Format) (text : List ℕ) (cs : List (List ℕ)) (r : Result ManifestLines Fault)
        → manifest_of text ≡ r → HasAnswer f text cs
    by_manifest f text cs (Ok m) is = by_count f text cs m is (same_or_not (length cs) (length (sources_of m.lines)))
      where
        same_or_not : (a b : ℕ) → (a ≡ b) ⊎ (a ≢ b)
        same_or_not a b = elim (eqb_tells a b) [ inl x ↦ inl x.1 | inr x ↦ inr x.1 ]
    by_manifest f text cs (Err e) is = (Err (Manifest e.line e.number), (λ z. cc), is)

    pub given : (f : Format) (text : List ℕ) (cs : List (List ℕ)) → HasAnswer f text cs
    given f text cs = by_manifest f text cs (manifest_of text) refl

-- one text, one manifest or one fault
same : (text : List ℕ) (m n : ManifestLines) → manifest_of text ≡ Ok m → manifest_of text ≡ Ok n → m ≡ n
same text m n x y = let z = sym x ∙ y in cc

one_fault : (text : List ℕ) (d e : Fault) → manifest_of text ≡ Err d → manifest_of text ≡ Err e → d ≡ e
one_fault text d e x y = let z = sym x ∙ y in cc

neither : (text : List ℕ) (m : ManifestLines) (e : Fault) → manifest_of text ≡ Ok m → manifest_of text ≡ Err e → ⊥
neither text m e x y = let z = sym x ∙ y in cc

miscounted : (text : List ℕ) (cs : List (List ℕ)) (m n : ManifestLines) → IsGiven text cs m → manifest_of text ≡ Ok n
    → length cs ≢ length (sources_of n.lines) → ⊥
miscounted text cs m n x y z =
    z (subst (λ (k : ManifestLines). length cs ≡ length (sources_of k.lines)) (same text m n x.manifest y) x.count)

module _
    (excluded : (f : Format) (m : ManifestLines) (sizes : List ℕ) (e : misfit.Fault) → HasNoMisfit f m sizes
    → IsLeastMisfit f m sizes e → ⊥)
    (least_alone : (f : Format) (m : ManifestLines) (sizes : List ℕ) (d e : misfit.Fault) → IsLeastMisfit f m sizes d
    → IsLeastMisfit f m sizes e → d ≡ e)
  where
    fits_not : (f : Format) (sizes : List ℕ) (m n : ManifestLines) (e : misfit.Fault) → m ≡ n → HasNoMisfit f m sizes
        → IsLeastMisfit f n sizes e → ⊥
    fits_not f sizes m n e is x y = excluded f n sizes e (subst (λ (k : ManifestLines). HasNoMisfit f k sizes) is x) y

    one_misfit : (f : Format) (sizes : List ℕ) (m n : ManifestLines) (d e : misfit.Fault) → m ≡ n
        → IsLeastMisfit f m sizes d → IsLeastMisfit f n sizes e → d ≡ e
    one_misfit f sizes m n d e is x y =
        least_alone f n sizes d e (subst (λ (k : ManifestLines). IsLeastMisfit f k sizes d) is x) y

    pub alone : (f : Format) (text : List ℕ) (cs : List (List ℕ)) (one other : Result (List ℕ) BuildError)
        → one ≢ Err OutOfMemory → other ≢ Err OutOfMemory → Builds f text cs one → Builds f text cs other → one ≡ other
    alone f text cs (Err OutOfMemory) other p q x y = absurd (p refl)
    alone f text cs (Ok a) (Err OutOfMemory) p q x y = absurd (q refl)
    alone f text cs (Err (Manifest line number)) (Err OutOfMemory) p q x y = absurd (q refl)
    alone f text cs (Err (Plan line number)) (Err OutOfMemory) p q x y = absurd (q refl)
    alone f text cs (Err Count) (Err OutOfMemory) p q x y = absurd (q refl)
    alone f text cs (Ok a) (Ok b) p q x y =
        ap (λ (bs : List ℕ). Ok bs) (x.3.layout
        ∙ ap (λ (m : ManifestLines). layout_of f m cs) (same text x.0 y.0 x.1.manifest y.1.manifest) ∙ sym y.3.layout)
    alone f text cs (Ok a) (Err (Manifest line number)) p q x y = absurd (neither text x.0 _ x.1.manifest y)
    alone f text cs (Ok a) (Err (Plan line number)) p q x y =
        absurd (fits_not f (map length cs) x.0 y.0 _ (same text x.0 y.0 x.1.manifest y.1.manifest) x.2 y.2)
    alone f text cs (Ok a) (Err Count) p q x y = absurd (miscounted text cs x.0 y.0 x.1 y.1 y.2)
    alone f text cs (Err (Manifest line number)) (Ok b) p q x y = absurd (neither text y.0 _ y.1.manifest x)
    alone f text cs (Err (Manifest line number)) (Err (Manifest other_line other_number)) p q x y =
        ap (λ (e : Fault). Err (Manifest e.line e.number)) (one_fault text _ _ x y)
    alone f text cs (Err (Manifest line number)) (Err (Plan other_line other_number)) p q x y =
        absurd (neither text y.0 _ y.1.manifest x)
    alone f text cs (Err (Manifest line number)) (Err Count) p q x y = absurd (neither text y.0 _ y.1 x)
    alone f text cs (Err (Plan line number)) (Ok b) p q x y =
        absurd (fits_not f (map length cs) y.0 x.0 _ (same text y.0 x.0 y.1.manifest x.1.manifest) y.2 x.2)
    alone f text cs (Err (Plan line number)) (Err (Manifest other_line other_number)) p q x y =
        absurd (neither text x.0 _ x.1.manifest y)
    alone f text cs (Err (Plan line number)) (Err (Plan other_line other_number)) p q x y =
        ap (λ (e : misfit.Fault). Err (Plan e.at e.number))
        (one_misfit f (map length cs) x.0 y.0 _ _ (same text x.0 y.0 x.1.manifest y.1.manifest) x.2 y.2)
    alone f text cs (Err (Plan line number)) (Err Count) p q x y = absurd (miscounted text cs x.0 y.0 x.1 y.1 y.2)
    alone f text cs (Err Count) (Ok b) p q x y = absurd (miscounted text cs y.0 x.0 y.1 x.1 x.2)
    alone f text cs (Err Count) (Err (Manifest other_line other_number)) p q x y = absurd (neither text x.0 _ x.1 y)
    alone f text cs (Err Count) (Err (Plan other_line other_number)) p q x y =
        absurd (miscounted text cs y.0 x.0 y.1 x.1 x.2)
    alone f text cs (Err Count) (Err Count) p q x y = refl
