use Rattle.std.proofs.Common.{◌≡◌, ◌+◌, ◌-◌, ◌<◌, ℕ, [], length, drop, subst, sym, ◌∙◌, refl, arith}
use Rattle.image_stream.specs.Segments.{SegmentsRise, zeros}
use Rattle.image_stream.specs.Steps.{IsDone, IsDoneRead, Gone, Sent}
use Rattle.rom_fields.specs.Written.{AppendsPrefix}
use Rattle.image_stream.proofs.Images.{rises_here, done_none, broken_next, broken_end}
use Rattle.image_stream.proofs.Answering.{done_none_read, sent_none, sent_next, sent_all}
use Rattle.image_stream.proofs.pieces.walk.Goals as goal

pub loop-i-init : goal.loop-i-init
loop-i-init g c =
    let f = g.L.Segmented.form c.args.layout.now in
    let parts = f.segments in
    let known = g.S.Sources.known c.args.sources.now in
    let D : ℕ → Type 0 = λ v. IsDone known f.start parts f.end v parts [] in
    let E : ℕ → Type 0 = λ v. IsDoneRead f.start parts f.end v parts [] [] in
    let R : ℕ → Type 0 = λ v. SegmentsRise v parts f.end in
    record {
      room = refl;
      known = refl;
      files = refl;
      names = refl;
      read = refl;
      loan = refl;
      wrote = refl;
      rises = subst R (sym c.head_len-at.ensures) c.requires.laid.rises;
      sent = sent_none g.K.Sink.NeedsAll (IsDone known f.start parts f.end c.head_len-at.result parts)
          (IsDoneRead f.start parts f.end c.head_len-at.result parts) _ _ _
          (subst D (sym c.head_len-at.ensures) (done_none known f.start parts f.end))
          (subst E (sym c.head_len-at.ensures) (done_none_read f.start parts f.end));
    }

pub next_segment-requires-clause-small : goal.next_segment-requires-clause-small
next_segment-requires-clause-small g c =
    let L = g.L.Segmented in
    let h = rises_here (L.form c.args.layout.now).segments c.loop-i.i c.loop-i.at (L.form c.args.layout.now).end
    (omega arith) c.loop-i.invariant.rises in
    let s = c.requires.laid.small in
    omega arith

pub returns-in-Err-clause-front : goal.returns-in-Err-clause-front
returns-in-Err-clause-front g c = λ cs is.
    let L = g.L.Segmented in
    let inv = c.loop-i.invariant in
    broken_next (g.S.Sources.known c.args.sources.now) (g.S.Sources.known c.loop-i.sources)
    (L.form c.args.layout.now).start (L.form c.args.layout.now).segments
    (L.form c.args.layout.now).end c.loop-i.at c.loop-i.i
    _ _ _ inv.sent.bytes cs inv.known is (omega arith) inv.sent.are.0 inv.sent.written c.in-Err.ensures.front

pub loop-i-preserved : goal.loop-i-preserved
loop-i-preserved g c =
    let f = g.L.Segmented.form c.args.layout.now in
    let parts = f.segments in
    let end = f.end in
    let known = g.S.Sources.known c.args.sources.now in
    let inv = c.loop-i.invariant in
    let small : c.loop-i.i < length parts = omega arith in
    let h = rises_here parts c.loop-i.i c.loop-i.at end small inv.rises in
    let R : ℕ → Type 0 = λ v. SegmentsRise v (drop (c.loop-i.i + 1) parts) end in
    let G : ℕ → Type 0 = λ v. Sent g.K.Sink.NeedsAll (IsDone known f.start parts end v (drop (c.loop-i.i + 1) parts))
    (IsDoneRead f.start parts end v (drop (c.loop-i.i + 1) parts)) (g.S.Sources.IsLog c.args.sources.now)
    (g.S.Sources.IsLog c.next_segment.new.sources) (g.K.Sink.output c.args.sink.now).contents
    (g.K.Sink.output c.next_segment.new.sink).contents (g.K.Sink.Is c.args.sink.now)
    (g.K.Sink.Is c.next_segment.new.sink) in
    record {
      room = c.next_segment.auto.buffer ∙ inv.room;
      known = c.next_segment.ensures.known ∙ inv.known;
      files = c.next_segment.ensures.files ∙ inv.files;
      names = c.next_segment.ensures.names ∙ inv.names;
      read = c.in-Ok.ensures.quiet.0 ∙ inv.read;
      loan = c.next_segment.ensures.loan ∙ inv.loan;
      wrote = c.in-Ok.ensures.quiet.1 ∙ inv.wrote;
      rises = subst R (sym c.in-Ok.ensures.end) h.2;
      sent = subst G (sym c.in-Ok.ensures.end)
          (sent_next g.K.Sink.NeedsAll known (g.S.Sources.known c.loop-i.sources) f.start parts end c.loop-i.at
          c.loop-i.i _ _ _ _ _ _ _ _ _ inv.known small inv.sent c.in-Ok.ensures.ok);
    }

pub returns-in-Ok-emit_zeros-clause-ok : goal.returns-in-Ok-emit_zeros-clause-ok
returns-in-Ok-emit_zeros-clause-ok g c =
    let L = g.L.Segmented in
    let end = (L.form c.args.layout.now).end in
    let known = g.S.Sources.known c.args.sources.now in
    let Z : ℕ → Type 0 = λ v. Gone (λ xs. xs ≡ zeros (v - c.loop-i.at)) (g.K.Sink.output c.loop-i.sink).contents
    (g.K.Sink.output c.emit_zeros.new.sink).contents (g.K.Sink.Is c.loop-i.sink)
    (g.K.Sink.Is c.emit_zeros.new.sink) in
    sent_all g.K.Sink.NeedsAll known (L.form c.args.layout.now).start
    (L.form c.args.layout.now).segments end c.loop-i.at c.loop-i.i _ _ _ _ _ _ _ _
    (omega arith) c.loop-i.invariant.sent (subst Z c.image_len.ensures c.in-Ok-emit_zeros.ensures.ok)

pub returns-in-Err-emit_zeros-clause-front : goal.returns-in-Err-emit_zeros-clause-front
returns-in-Err-emit_zeros-clause-front g c = λ cs is.
    let L = g.L.Segmented in
    let end = (L.form c.args.layout.now).end in
    let inv = c.loop-i.invariant in
    let Z : ℕ → Type 0 = λ v. AppendsPrefix (g.K.Sink.output c.loop-i.sink).contents
    (g.K.Sink.output c.emit_zeros.new.sink).contents (zeros (v - c.loop-i.at)) in
    broken_end (g.S.Sources.known c.args.sources.now) (L.form c.args.layout.now).start
    (L.form c.args.layout.now).segments end c.loop-i.at c.loop-i.i _ _ _ inv.sent.bytes cs is
    (omega arith) inv.sent.are.0 inv.sent.written
    (subst Z c.image_len.ensures c.in-Err-emit_zeros.ensures.front)
