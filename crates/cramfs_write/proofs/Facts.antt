-- The known facts of the plan of a manifest.
use Rattle.std.proofs.Common.{◌≡◌, ℕ, ◌^◌, ◌<◌, List, [], ◌++◌, map, length, get_or, refl, sym, subst, arith}
use Rattle.cramfs_format.specs.declared.order.Order.{Order}
use Rattle.manifest.specs.Grammar.{IsManifest}
use Rattle.manifest.specs.Lines.{ManifestLines, sources_of}
use Rattle.manifest_tree.specs.Tree.{tree_of, root_of}
use Rattle.manifest_tree.proofs.Sections.{order_every}
use Rattle.cramfs_layout.specs.Layout.{first_state}
use Rattle.cramfs_layout.specs.Items.{AreAlignedBy, entries, below, items_of, sections_from}
use Rattle.cramfs_layout.specs.Planned.{IsPlanned}
use Rattle.cramfs_layout.proofs.Sectioned.{rise}
use Rattle.formats.specs.Format.{Format, cramfs}
use Rattle.manifest_layout.specs.Misfit.{HasNoMisfit}
use Rattle.manifest_layout.proofs.Sourced.{align_of, sourced}
use Rattle.manifest_layout.specs.Plans.{Planned, IsPlan, IsPlanOf}
use Rattle.manifest_layout.proofs.Sized.{Fitting, zeros, lengths}
use Rattle.manifest_layout.proofs.SourceSizes.{sizes_small}
use Rattle.cramfs_write.specs.Known.{IsCramfsPlan}
use Rattle.cramfs_write.proofs.Means.{items_are, planned, planned_is}
use Rattle.cramfs_write.proofs.Sections.{IsPart, are_parts}
use Rattle.cramfs_write.proofs.Fits.{are_fit}

of_contents : (o : Order) (m : ManifestLines) (cs : List (List ℕ)) (A : ℕ → ℕ)
    → IsPlanned m.volume (root_of m.lines (map length cs)) (tree_of m.lines (map length cs)) cs
    → AreAlignedBy A (tree_of m.lines (map length cs)) → ((file : ℕ) → get_or (map length cs) file 0 < 2 ^ 32)
    → IsCramfsPlan (planned o m (map length cs))
of_contents o m cs A h al sized =
    let sizes = map length cs in
    let root = root_of m.lines sizes in
    let n = tree_of m.lines sizes in
    let all = items_of o root n in
    let others = entries o 76 (first_state n) n ++ below o (first_state n) n in
    let few = h.few in
    let c = items_are o root n in
    record {
      short = h.short;
      some = omega arith;
      few = omega (arith, few, c);
      room = h.room;
      sections = refl;
      rises = (rise o m.volume root n cs A h al).2;
      bodies = order_every (IsPart cs all) (sections_from [] 1 others)
          (are_parts cs all [] 1 others refl (are_fit o m.volume root n cs A h al));
      sized = sized;
    }

facts : Fitting → (o : Order) (m : ManifestLines) (sizes : List ℕ) → IsManifest m
    → length sizes ≡ length (sources_of m.lines)
    → HasNoMisfit (cramfs o) m sizes → IsCramfsPlan (planned o m sizes)
facts fitting o m sizes h l n =
    let e = lengths sizes in
    let cs = zeros sizes in
    let fits = subst (HasNoMisfit (cramfs o) m) (sym e) n in
    let small = subst (λ (xs : List ℕ). (file : ℕ) → get_or xs file 0 < 2 ^ 32) (sym e)
    (sizes_small (cramfs o) m sizes h l n) in
    subst (λ (xs : List ℕ). IsCramfsPlan (planned o m xs)) e
    (of_contents o m cs (align_of m.lines) (fitting (cramfs o) m cs h fits)
    (sourced (cramfs o) m (map length cs) h fits) small)

pub plan_known : Fitting → (o : Order) (p : Planned) → IsPlan p → p.format ≡ cramfs o → IsCramfsPlan p
plan_known fitting o p h e =
    let m = h.0 in
    let sizes = h.1 in
    let is : IsPlanOf (cramfs o) m sizes p = subst (λ (f : Format). IsPlanOf f m sizes p) e h.4 in
    subst IsCramfsPlan (sym (planned_is o m sizes p is)) (facts fitting o m sizes h.2 h.3 is.fits)
