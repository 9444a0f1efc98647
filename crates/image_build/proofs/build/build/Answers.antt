use Rattle.std.proofs.Common.{List, ℕ, map, length, sym, ap, subst, ◌∙◌, arith, rules}
use Rattle.manifest_layout.specs.Plans.{IsPlanOf}
use Rattle.manifest_layout.specs.Format.{layout_of}
use Rattle.formats.specs.Format.{format_of}
use Rattle.image_build.proofs.Answered.{image_of}
use Rattle.image_build.proofs.Filled.{filled}
use Rattle.image_build.specs.Builds.{IsGiven}
use Rattle.image_build.proofs.build.build.Goals as goal

pub returns-clause-ok : goal.returns-clause-ok
returns-clause-ok c =
    let f = format_of c.args.format in
    let m = c.in_ok-manifest.manifest in
    let cs = c.args.contents.now in
    let bytes = c.fill.new.out in
    let known = c.in_ok-manifest.ensures in
    let given : IsGiven c.args.manifest.now cs m = record { manifest = known; count = search rules } in
    let plan = subst (λ (s : List ℕ). IsPlanOf f m s c.in_ok-plan.plan)
    (c.deref.ensures.value ∙ c.in_ok-sizes.ensures) c.in_ok-plan.ensures.ok in
    let laid = c.fill.ensures m (c.args.manifest.now, known)
    (subst (λ g. IsPlanOf g m (map length cs) c.in_ok-plan.plan) (sym plan.format) plan) in
    let ok = c.in_ok-image.image.ok in
    let lent = c.deref_mut.ensures.len in
    let kept = c.fill.auto.out in
    let whole = filled c.in_ok-image.image.len bytes _ (omega arith) in (
      m,
      given,
      plan.fits,
      image_of f m cs _ (whole ∙ (laid ∙ ap (λ g. layout_of g m cs) plan.format))
          (c.layout_is_meant.ensures.tree f m cs (c.args.manifest.now, known) plan.fits),
    )
