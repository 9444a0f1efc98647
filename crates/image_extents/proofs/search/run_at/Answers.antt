use Rattle.std.proofs.Common.{◌+◌, subst, sym}
use Rattle.image_extents.specs.declared.extent.Extent.{Extent}
use Rattle.image_extents.specs.declared.extent.Kind.TheVariants.{Super}
use Rattle.image_extents.proofs.Owners.{Parts, first_before, starting_is}
use Rattle.image_extents.proofs.search.run_at.Goals as goal

abbrev none : Extent
none = record { kind = Super; start = 0; len = 0; offset = 0; owner = 0 }

pub slice_bounds-result-start : goal.slice_bounds-result-start
slice_bounds-result-start c =
    let p : Parts c.args.extents.now c.args.start c.begun-first.result =
    subst (λ v. Parts c.args.extents.now v c.begun-first.result) c.from-start.ensures c.begun-first.ensures.parts in
    let q : Parts c.args.extents.now (c.args.start + 1) c.begun-next.result =
    subst (λ v. Parts c.args.extents.now (v + 1) c.begun-next.result) c.from-start.ensures c.begun-next.ensures.parts in
    first_before c.args.start c.args.extents.now c.begun-first.result c.begun-next.result none
    c.begun-first.ensures.within p q

pub slice_bounds-result-count : goal.slice_bounds-result-count
slice_bounds-result-count c =
    let p : Parts c.args.extents.now c.args.start c.begun-first.result =
    subst (λ v. Parts c.args.extents.now v c.begun-first.result) c.from-start.ensures c.begun-first.ensures.parts in
    let q : Parts c.args.extents.now (c.args.start + 1) c.begun-next.result =
    subst (λ v. Parts c.args.extents.now (v + 1) c.begun-next.result) c.from-start.ensures c.begun-next.ensures.parts in
    first_before c.args.start c.args.extents.now c.begun-first.result c.begun-next.result none
    c.begun-first.ensures.within p q

pub returns : goal.returns
returns c =
    let p : Parts c.args.extents.now c.args.start c.begun-first.result =
    subst (λ v. Parts c.args.extents.now v c.begun-first.result) c.from-start.ensures c.begun-first.ensures.parts in
    let q : Parts c.args.extents.now (c.args.start + 1) c.begun-next.result =
    subst (λ v. Parts c.args.extents.now (v + 1) c.begun-next.result) c.from-start.ensures c.begun-next.ensures.parts in
    sym (starting_is c.args.start c.args.extents.now c.begun-first.result c.begun-next.result p q)
