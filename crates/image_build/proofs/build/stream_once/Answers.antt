use Rattle.std.proofs.Common.{◌≡◌, sym, ap, subst, ◌∙◌}
use Rattle.image_stream.specs.Outcomes.{StreamsOnce, state}
use Rattle.formats.specs.Format.{Format, romfs, cramfs}
use Rattle.formats.specs.Format.{format_of}
use Rattle.image_build.specs.Streamed.{form_in, stored_in}
use Rattle.image_build.proofs.Streams.{in_cramfs, planned_in, whole, once_of}
use Rattle.image_build.proofs.build.stream_once.Goals as goal

pub returns-in-Romfs : goal.returns-in-Romfs
returns-in-Romfs g c = record {
  streams =
      let p = c.args.plan.now in
      let e : p.format ≡ romfs = sym c.format.ensures ∙ ap format_of c.in-Romfs.is in
      let now = c.args.sources.now in
      let new = c.stream_through.new.sources in
      subst (λ (f : Format). StreamsOnce (form_in f p) (stored_in f)
      (state (g.S.Sources.known now) (g.S.Sources.files now) (g.S.Sources.names now)
      (g.S.Sources.reads now))
      (state (g.S.Sources.known new) (g.S.Sources.files new) (g.S.Sources.names new)
      (g.S.Sources.reads new))
      (g.S.Sources.IsLog now) (g.S.Sources.IsLog new) (g.W.ByteWrite.output c.args.w.now)
      (g.W.ByteWrite.output c.stream_through.new.w) c.stream_through.result)
      (sym e) (once_of _ _ _ _ _ _ _ _ _ c.stream_through.ensures.streams);
  whole = λ text is.
      let p = c.args.plan.now in
      let e : p.format ≡ romfs = sym c.format.ensures ∙ ap format_of c.in-Romfs.is in
      let old = (g.W.ByteWrite.output c.args.w.now).contents in
      let new = (g.W.ByteWrite.output c.stream_through.new.w).contents in
      whole c.layout_is_meant.ensures.tree c.stream_through.result
      (g.S.Sources.known c.args.sources.now) romfs p text old new e is
      (c.stream_through.ensures.whole is.lines p.sizes (text, is.manifest) (planned_in romfs p text e is));
}

pub returns-in-Cramfs : goal.returns-in-Cramfs
returns-in-Cramfs g c =
    let x = in_cramfs c.format.result c.in-Cramfs.is in
    let e : c.args.plan.now.format ≡ cramfs x.0 = sym c.format.ensures ∙ x.1 in
    let streams = c.stream_once.ensures.streams x.0 e in
    record {
      streams =
          let p = c.args.plan.now in
          let now = c.args.sources.now in
          let new = c.stream_once.new.sources in
          subst (λ (f : Format). StreamsOnce (form_in f p) (stored_in f)
          (state (g.S.Sources.known now) (g.S.Sources.files now) (g.S.Sources.names now)
          (g.S.Sources.reads now))
          (state (g.S.Sources.known new) (g.S.Sources.files new) (g.S.Sources.names new)
          (g.S.Sources.reads new))
          (g.S.Sources.IsLog now) (g.S.Sources.IsLog new) (g.W.ByteWrite.output c.args.w.now)
          (g.W.ByteWrite.output c.stream_once.new.w) c.stream_once.result)
          (sym e) streams;
      whole = λ text is.
          let p = c.args.plan.now in
          let old = (g.W.ByteWrite.output c.args.w.now).contents in
          let new = (g.W.ByteWrite.output c.stream_once.new.w).contents in
          whole c.layout_is_meant.ensures.tree c.stream_once.result (g.S.Sources.known c.args.sources.now)
          (cramfs x.0) p text old new e is
          (c.stream_once.ensures.whole x.0 is.lines p.sizes (text, is.manifest)
          (planned_in (cramfs x.0) p text e is));
    }
