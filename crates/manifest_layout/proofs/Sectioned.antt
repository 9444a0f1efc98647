-- The sections of a manifest that fits.
use Rattle.std.proofs.Common.{◌≡◌, ℕ, List, [], ◌∷◌, length, map, replicate, refl, sym, ap, subst, ◌∙◌, arith}
use Rattle.std.proofs.lemmas.List.{length-replicate}
use Rattle.manifest.specs.Grammar.{IsManifest}
use Rattle.manifest.specs.Lines.{ManifestLines}
use Rattle.manifest_tree.specs.Tree.{tree_of, root_of}
use Rattle.rom_fields.proofs.Padding.{pad-after}
use Rattle.manifest_tree.specs.Items.{SectionsRise}
use Rattle.manifest_tree.proofs.Sections.{rise_wider}
use Rattle.romfs_layout.specs.Layout.{root_at, full_size_of}
use Rattle.romfs_layout.proofs.Compact as romfs_compact
use Rattle.romfs_layout.proofs.Sectioned as in_romfs
use Rattle.cramfs_layout.proofs.Compact as cramfs_compact
use Rattle.cramfs_layout.proofs.Sectioned as in_cramfs
use Rattle.formats.specs.Format.{Format, romfs, cramfs}
use Rattle.manifest_layout.specs.Format.{len_of, sections_of, IsPlannedBy}
use Rattle.manifest_layout.specs.Compact.{IsCompact}
use Rattle.manifest_layout.specs.Misfit.{HasNoMisfit}
use Rattle.manifest_layout.proofs.Fitting.{fitting}
use Rattle.manifest_layout.proofs.Sourced.{align_of, sourced, have_alignments}

-- contents of given sizes
zeros : List ℕ → List (List ℕ)
zeros sizes = map (λ n. replicate n 0) sizes

lengths : (sizes : List ℕ) → map length (zeros sizes) ≡ sizes
unfolding zeros
lengths [] = refl
lengths (n ∷ ns) = ap (λ (k : ℕ). k ∷ map length (map (λ n. replicate {A = ℕ} n 0) ns)) (length-replicate {A = ℕ} n 0)
    ∙ ap (λ (xs : List ℕ). n ∷ xs) (lengths ns)

of_contents : (f : Format) (m : ManifestLines) (cs : List (List ℕ)) → IsManifest m → HasNoMisfit f m (map length cs)
    → SectionsRise 0 (len_of f m (map length cs)) (sections_of f m (map length cs))
of_contents romfs m cs h n =
    let sizes = map length cs in
    let t = tree_of m.lines sizes in
    let end = full_size_of (root_at m.volume) t in
    rise_wider 0 end (len_of romfs m sizes) (sections_of romfs m sizes) (pad-after end 1024 (omega arith))
    (in_romfs.rise m.volume (root_of m.lines sizes) t cs (fitting romfs m cs h n))
of_contents (cramfs o) m cs h n =
    let sizes = map length cs in
    in_cramfs.rise o m.volume (root_of m.lines sizes) (tree_of m.lines sizes) cs (align_of m.lines)
    (fitting (cramfs o) m cs h n) (sourced (cramfs o) m sizes h n)

pub rise : (f : Format) (m : ManifestLines) (sizes : List ℕ) → IsManifest m → HasNoMisfit f m sizes
    → SectionsRise 0 (len_of f m sizes) (sections_of f m sizes)
rise f m sizes h n =
    let e = lengths sizes in
    subst (λ (xs : List ℕ). SectionsRise 0 (len_of f m xs) (sections_of f m xs)) e
    (of_contents f m (zeros sizes) h (subst (HasNoMisfit f m) (sym e) n))

compact_of : (f : Format) (m : ManifestLines) (cs : List (List ℕ)) → IsManifest m → HasNoMisfit f m (map length cs)
    → IsCompact f m (map length cs)
compact_of romfs m cs h n =
    let sizes = map length cs in
    romfs_compact.are_compact m.volume (root_of m.lines sizes) (tree_of m.lines sizes) cs (align_of m.lines)
    (fitting romfs m cs h n) (have_alignments romfs m sizes h n)
compact_of (cramfs o) m cs h n =
    let sizes = map length cs in
    cramfs_compact.are_compact o m.volume (root_of m.lines sizes) (tree_of m.lines sizes) cs (align_of m.lines)
    (fitting (cramfs o) m cs h n) (have_alignments (cramfs o) m sizes h n)

pub compact : (f : Format) (m : ManifestLines) (sizes : List ℕ) → IsManifest m → HasNoMisfit f m sizes
    → IsCompact f m sizes
compact f m sizes h n =
    let e = lengths sizes in
    subst (IsCompact f m) e (compact_of f m (zeros sizes) h (subst (HasNoMisfit f m) (sym e) n))

-- a manifest that fits can be laid out, whatever its sources of these sizes hold
pub planned : (f : Format) (m : ManifestLines) (sizes : List ℕ) → IsManifest m → HasNoMisfit f m sizes
    → (cs : List (List ℕ)) × (map length cs ≡ sizes) × IsPlannedBy f m cs
planned f m sizes h n =
    let e = lengths sizes in
    (zeros sizes, e, fitting f m (zeros sizes) h (subst (HasNoMisfit f m) (sym e) n))
