use Rattle.std.proofs.Common.{length, sym, ap, subst, ◌∙◌}
use Rattle.cramfs_format.specs.declared.order.Order.{Order}
use Rattle.crc.specs.Crc.{crc_of}
use Rattle.image_stream.specs.Segments.{image_of}
use Rattle.manifest_layout.specs.Plans.{Planned, IsPlanOf}
use Rattle.formats.specs.Format.{cramfs}
use Rattle.image_stream.proofs.Results.{ok_weaker}
use Rattle.cramfs_write.specs.Form.{form_of}
use Rattle.cramfs_write.specs.Known.{IsCramfsPlan}
use Rattle.cramfs_write.proofs.Laid.{laid_out}
use Rattle.cramfs_write.proofs.Means.{sized_means, one_order}
use Rattle.cramfs_write.proofs.writing.write.Goals as goal

pub write-requires-clause-laid : goal.write-requires-clause-laid
write-requires-clause-laid c =
    let f = c.new-form.result in
    laid_out f.order f.plan.now (subst IsCramfsPlan (sym c.new-form.ensures.plan) c.facts.ensures.plan)

pub returns-clause-ok : goal.returns-clause-ok
returns-clause-ok c = λ o m sizes hm is.
    let f = c.new-form.result in
    let e = sym c.new-form.ensures.plan in
    let p = f.plan.now in
    let cs = c.args.contents.now in
    let facts = subst IsCramfsPlan e c.facts.ensures.plan in
    let same = one_order (sym is.format ∙ c.order_of-order.ensures) ∙ sym c.new-form.ensures.order in
    let is' = subst (IsPlanOf (cramfs o) m sizes) e is in
    let n = c.requires.count ∙ ap (λ (p : Planned). length p.sizes) e in
    ok_weaker c.write.result (λ h. let r = sized_means c.fitting_is_planned.ensures o p m sizes cs hm facts is' n h.0 in
    (r.0, h.1 ∙ ap (λ (q : Order). image_of (form_of q p) crc_of cs) (sym same) ∙ r.1)) c.write.ensures.ok
