use Rattle.std.proofs.Common.{length, sym, ap, subst, ◌∙◌}
use Rattle.image_stream.specs.Segments.{IsLaidOut}
use Rattle.manifest_layout.specs.Plans.{Planned, IsPlanOf}
use Rattle.formats.specs.Format.{romfs}
use Rattle.romfs_write.specs.Form.{form_of}
use Rattle.romfs_write.specs.Known.{IsRomfsPlan}
use Rattle.romfs_write.proofs.Laid.{laid_out}
use Rattle.image_stream.proofs.Results.{ok_weaker}
use Rattle.romfs_write.proofs.Means.{sized_means}
use Rattle.romfs_write.proofs.writing.write.Goals as goal

pub write-requires-clause-laid : goal.write-requires-clause-laid
write-requires-clause-laid c = subst (λ (p : Planned). IsLaidOut (form_of p)) (sym c.new-form.ensures)
    (laid_out c.args.plan.now c.facts.ensures.plan)

pub returns-clause-ok : goal.returns-clause-ok
returns-clause-ok c = λ m sizes hm is.
    let e = sym c.new-form.ensures in
    let p = c.new-form.result.plan.now in
    let cs = c.args.contents.now in
    let facts = subst IsRomfsPlan e c.facts.ensures.plan in
    let is' = subst (IsPlanOf romfs m sizes) e is in
    let n = c.requires.count ∙ ap (λ (p : Planned). length p.sizes) e in
    ok_weaker c.write.result (λ h. let r = sized_means c.fitting_is_planned.ensures p m sizes cs hm facts is' n h.0 in
    (r.0, h.1 ∙ r.1)) c.write.ensures.ok
