use Rattle.std.proofs.Common.{◌≡◌, sym, ap, subst, ◌∙◌}
use Rattle.image_stream.specs.Outcomes.{Streams, state}
use Rattle.formats.specs.Format.{Format, romfs, cramfs}
use Rattle.formats.specs.Format.{format_of}
use Rattle.image_build.specs.Streamed.{form_in, stored_in}
use Rattle.image_build.proofs.Streams.{in_cramfs, planned_in, whole, front}
use Rattle.image_build.proofs.build.stream_through.Goals as goal

pub returns-in-Romfs : goal.returns-in-Romfs
returns-in-Romfs g c = record {
  streams =
      let p = c.args.plan.now in
      let e : p.format ≡ romfs = sym c.format.ensures ∙ ap format_of c.in-Romfs.is in
      let now = c.args.sources.now in
      let new = c.stream_through.new.sources in
      subst (λ (f : Format). Streams (form_in f p) (stored_in f)
      (state (g.S.Sources.known now) (g.S.Sources.files now) (g.S.Sources.names now)
      (g.S.Sources.reads now))
      (state (g.S.Sources.known new) (g.S.Sources.files new) (g.S.Sources.names new)
      (g.S.Sources.reads new))
      (g.S.Sources.IsLog now) (g.S.Sources.IsLog new) (g.W.ByteWrite.output c.args.w.now)
      (g.W.ByteWrite.output c.stream_through.new.w) c.stream_through.result)
      (sym e) c.stream_through.ensures.streams;
  sized = c.stream_through.ensures.streams.sized;
  whole = λ text is.
      let p = c.args.plan.now in
      let e : p.format ≡ romfs = sym c.format.ensures ∙ ap format_of c.in-Romfs.is in
      let old = (g.W.ByteWrite.output c.args.w.now).contents in
      let new = (g.W.ByteWrite.output c.stream_through.new.w).contents in
      whole c.layout_is_meant.ensures.tree c.stream_through.result
      (g.S.Sources.known c.args.sources.now) romfs p text old new e is
      (c.stream_through.ensures.whole is.lines p.sizes (text, is.manifest) (planned_in romfs p text e is));
  front = λ text is.
      let p = c.args.plan.now in
      let e : p.format ≡ romfs = sym c.format.ensures ∙ ap format_of c.in-Romfs.is in
      let old = (g.W.ByteWrite.output c.args.w.now).contents in
      let new = (g.W.ByteWrite.output c.stream_through.new.w).contents in
      front c.layout_is_meant.ensures.tree c.stream_through.result
      (g.S.Sources.known c.args.sources.now) romfs p text old new e is
      (c.stream_through.ensures.front is.lines p.sizes (text, is.manifest) (planned_in romfs p text e is));
}

pub returns-in-Cramfs : goal.returns-in-Cramfs
returns-in-Cramfs g c =
    let x = in_cramfs c.format.result c.in-Cramfs.is in
    let e : c.args.plan.now.format ≡ cramfs x.0 = sym c.format.ensures ∙ x.1 in
    let streams = c.stream_through-in-Cramfs.ensures.streams x.0 e in
    record {
      streams =
          let p = c.args.plan.now in
          let now = c.args.sources.now in
          let new = c.stream_through-in-Cramfs.new.sources in
          subst (λ (f : Format). Streams (form_in f p) (stored_in f)
          (state (g.S.Sources.known now) (g.S.Sources.files now) (g.S.Sources.names now)
          (g.S.Sources.reads now))
          (state (g.S.Sources.known new) (g.S.Sources.files new) (g.S.Sources.names new)
          (g.S.Sources.reads new))
          (g.S.Sources.IsLog now) (g.S.Sources.IsLog new) (g.W.ByteWrite.output c.args.w.now)
          (g.W.ByteWrite.output c.stream_through-in-Cramfs.new.w) c.stream_through-in-Cramfs.result)
          (sym e) streams;
      sized = streams.sized;
      whole = λ text is.
          let p = c.args.plan.now in
          let old = (g.W.ByteWrite.output c.args.w.now).contents in
          let new = (g.W.ByteWrite.output c.stream_through-in-Cramfs.new.w).contents in
          whole c.layout_is_meant.ensures.tree c.stream_through-in-Cramfs.result (g.S.Sources.known c.args.sources.now)
          (cramfs x.0) p text old new e is
          (c.stream_through-in-Cramfs.ensures.whole x.0 is.lines p.sizes (text, is.manifest)
          (planned_in (cramfs x.0) p text e is));
      front = λ text is.
          let p = c.args.plan.now in
          let old = (g.W.ByteWrite.output c.args.w.now).contents in
          let new = (g.W.ByteWrite.output c.stream_through-in-Cramfs.new.w).contents in
          front c.layout_is_meant.ensures.tree c.stream_through-in-Cramfs.result (g.S.Sources.known c.args.sources.now)
          (cramfs x.0) p text old new e is
          (c.stream_through-in-Cramfs.ensures.front x.0 is.lines p.sizes (text, is.manifest)
          (planned_in (cramfs x.0) p text e is));
    }
