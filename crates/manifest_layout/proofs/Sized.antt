-- Contents of given sizes.
use Rattle.std.proofs.Common.{◌≡◌, ℕ, zero, suc, List, [], ◌∷◌, map, length, get_or, replicate, refl, ap, ◌∙◌}
use Rattle.std.proofs.lemmas.List.{length-replicate}
use Rattle.manifest.specs.Grammar.{IsManifest}
use Rattle.manifest.specs.Lines.{ManifestLines}
use Rattle.formats.specs.Format.{Format}
use Rattle.manifest_layout.specs.Format.{IsPlannedBy}
use Rattle.manifest_layout.specs.Misfit.{HasNoMisfit}

-- a manifest that fits can be laid out
abbrev pub Fitting : Type 0
Fitting = (f : Format) (m : ManifestLines) (contents : List (List ℕ)) → IsManifest m
    → HasNoMisfit f m (map length contents) → IsPlannedBy f m contents

-- contents of given sizes
pub zeros : List ℕ → List (List ℕ)
zeros sizes = map (λ n. replicate n 0) sizes

pub lengths : (sizes : List ℕ) → map length (zeros sizes) ≡ sizes
unfolding zeros
lengths [] = refl
lengths (n ∷ ns) = ap (λ (k : ℕ). k ∷ map length (map (λ n. replicate {A = ℕ} n 0) ns)) (length-replicate {A = ℕ} n 0)
    ∙ ap (λ (xs : List ℕ). n ∷ xs) (lengths ns)

-- each length is that of the contents at its index
pub size_is : (cs : List (List ℕ)) (k : ℕ) → length (get_or cs k []) ≡ get_or (map length cs) k 0
size_is [] k = refl
size_is (c ∷ cs) zero = refl
size_is (c ∷ cs) (suc k) = size_is cs k
