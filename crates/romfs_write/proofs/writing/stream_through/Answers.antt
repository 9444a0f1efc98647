use Rattle.std.proofs.Common.{ℕ, List, length, sym, ap, subst, ◌∙◌}
use Rattle.std.specs.Io.KnownBytes.{Appends}
use Rattle.rom_fields.specs.Written.{AppendsPrefix}
use Rattle.image_stream.specs.Outcomes.{Streams, state}
use Rattle.image_stream.specs.Segments.{IsLaidOut}
use Rattle.image_stream.specs.WordSums.{balance_of}
use Rattle.manifest_layout.specs.Plans.{Planned, IsPlanOf}
use Rattle.formats.specs.Format.{romfs}
use Rattle.romfs_write.specs.Form.{form_of}
use Rattle.romfs_write.specs.Known.{IsRomfsPlan}
use Rattle.romfs_write.proofs.Laid.{laid_out}
use Rattle.image_stream.proofs.Results.{ok_both, err_weaker}
use Rattle.romfs_write.proofs.Means.{means, sized_means}
use Rattle.romfs_write.proofs.writing.stream_through.Goals as goal

pub stream_through-requires-clause-laid : goal.stream_through-requires-clause-laid
stream_through-requires-clause-laid g c =
    subst (λ (p : Planned). IsLaidOut (form_of p)) (sym c.new-form.ensures)
    (laid_out c.args.plan.now c.facts.ensures.plan)

pub returns : goal.returns
returns g c = record {
  streams =
      let now = c.args.sources.now in
      let new = c.stream_through.new.sources in
      subst (λ (p : Planned). Streams (form_of p) balance_of
      (state (g.S.Sources.known now) (g.S.Sources.files now) (g.S.Sources.names now)
      (g.S.Sources.reads now))
      (state (g.S.Sources.known new) (g.S.Sources.files new) (g.S.Sources.names new)
      (g.S.Sources.reads new))
      (g.S.Sources.IsLog now) (g.S.Sources.IsLog new) (g.W.ByteWrite.output c.args.w.now)
      (g.W.ByteWrite.output c.stream_through.new.w) c.stream_through.result)
      c.new-form.ensures c.stream_through.ensures;
  whole = λ m sizes hm is.
      let e = sym c.new-form.ensures in
      let p = c.new-form.result.plan.now in
      let facts = subst IsRomfsPlan e c.facts.ensures.plan in
      let is' = subst (IsPlanOf romfs m sizes) e is in
      let n = c.requires.files ∙ ap (λ (p : Planned). length p.sizes) e in
      let old = (g.W.ByteWrite.output c.args.w.now).contents in
      let new = (g.W.ByteWrite.output c.stream_through.new.w).contents in
      ok_both c.stream_through.result (λ sized whole cs known.
      let r = sized_means c.fitting_is_planned.ensures p m sizes cs hm facts is' (c.count.ensures.known cs known ∙ n)
      (sized cs known) in
      (r.0, subst (Appends old new) r.1 (whole cs known)))
      c.stream_through.ensures.sized c.stream_through.ensures.whole;
  front = λ m sizes hm is.
      let e = sym c.new-form.ensures in
      let p = c.new-form.result.plan.now in
      let facts = subst IsRomfsPlan e c.facts.ensures.plan in
      let is' = subst (IsPlanOf romfs m sizes) e is in
      let old = (g.W.ByteWrite.output c.args.w.now).contents in
      let new = (g.W.ByteWrite.output c.stream_through.new.w).contents in
      err_weaker c.stream_through.result (λ h cs known s.
      subst (AppendsPrefix old new) (means c.fitting_is_planned.ensures p m cs hm facts
      (subst (λ (xs : List ℕ). IsPlanOf romfs m xs p) (sym s) is')) (h cs known)) c.stream_through.ensures.front;
}
