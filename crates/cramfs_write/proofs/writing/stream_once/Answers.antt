use Rattle.std.proofs.Common.{ℕ, List, length, sym, ap, subst, ◌∙◌}
use Rattle.std.specs.Io.KnownBytes.{Appends}
use Rattle.cramfs_format.specs.declared.order.Order.{Order}
use Rattle.crc.specs.Crc.{crc_of}
use Rattle.image_stream.specs.Outcomes.{StreamsOnce, state}
use Rattle.image_stream.specs.Segments.{Form, image_of}
use Rattle.manifest_layout.specs.Plans.{Planned, IsPlanOf}
use Rattle.formats.specs.Format.{cramfs}
use Rattle.image_stream.proofs.Results.{ok_both}
use Rattle.cramfs_write.specs.Form.{form_of}
use Rattle.cramfs_write.specs.Known.{IsCramfsPlan}
use Rattle.cramfs_write.proofs.Laid.{laid_out}
use Rattle.cramfs_write.proofs.Means.{sized_means, one_order, one_form}
use Rattle.cramfs_write.proofs.writing.stream_once.Goals as goal

pub stream_once-requires-clause-laid : goal.stream_once-requires-clause-laid
stream_once-requires-clause-laid g c =
    let f = c.new-form.result in
    laid_out f.order f.plan.now (subst IsCramfsPlan (sym c.new-form.ensures.plan) c.facts.ensures.plan)

pub returns : goal.returns
returns g c = record {
  streams = λ o is.
      let now = c.args.sources.now in
      let new = c.stream_once.new.sources in
      let e = c.new-form.ensures in
      let same = one_order (sym c.order_of-order.ensures ∙ is) in
      subst (λ (f : Form). StreamsOnce f crc_of
      (state (g.S.Sources.known now) (g.S.Sources.files now) (g.S.Sources.names now)
      (g.S.Sources.reads now))
      (state (g.S.Sources.known new) (g.S.Sources.files new) (g.S.Sources.names new)
      (g.S.Sources.reads new))
      (g.S.Sources.IsLog now) (g.S.Sources.IsLog new) (g.W.ByteWrite.output c.args.w.now)
      (g.W.ByteWrite.output c.stream_once.new.w) c.stream_once.result)
      (one_form (e.order ∙ same) e.plan) c.stream_once.ensures;
  whole = λ o m sizes hm is.
      let e = sym c.new-form.ensures.plan in
      let p = c.new-form.result.plan.now in
      let facts = subst IsCramfsPlan e c.facts.ensures.plan in
      let same = c.new-form.ensures.order ∙ one_order (sym c.order_of-order.ensures ∙ is.format) in
      let is' = subst (IsPlanOf (cramfs o) m sizes) e is in
      let n = c.requires.files ∙ ap (λ (p : Planned). length p.sizes) e in
      let old = (g.W.ByteWrite.output c.args.w.now).contents in
      let new = (g.W.ByteWrite.output c.stream_once.new.w).contents in
      ok_both c.stream_once.result (λ sized whole cs known.
      let r = sized_means c.fitting_is_planned.ensures o p m sizes cs hm facts is' (c.count.ensures.known cs known ∙ n)
      (sized cs known) in (
        r.0,
        subst (Appends old new) (ap (λ (q : Order). image_of (form_of q p) crc_of cs) same ∙ r.1)
            (whole cs known),
      )) c.stream_once.ensures.sized c.stream_once.ensures.whole;
}
