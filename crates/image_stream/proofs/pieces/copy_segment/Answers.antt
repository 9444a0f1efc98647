use Rattle.std.proofs.Common.{◌≡◌, refl, length, drop, ◌∙◌, arith, length-drop, length-take, length-append}
use Rattle.image_stream.specs.Segments.{segment_at, len}
use Rattle.image_stream.proofs.Fronts.{front_none, front_written, front_broken, outline_len, piece_known}
use Rattle.image_stream.specs.Steps.{IsFront, IsFrontRead}
use Rattle.image_stream.proofs.Answering.{front_none_read, sent_none, sent_piece}
use Rattle.image_stream.proofs.Rests.{sent_full}
use Rattle.image_stream.proofs.pieces.copy_segment.Goals as goal

pub loop-from-init : goal.loop-from-init
loop-from-init g c =
    let p = segment_at (g.L.Segmented.form c.args.layout.now).segments c.args.i in
    let known = g.S.Sources.known c.args.sources.now in
    record {
      within = omega arith;
      words = λ _. refl;
      room = refl;
      known = refl;
      files = refl;
      names = refl;
      read = refl;
      loan = refl;
      wrote = refl;
      sent = sent_none g.K.Sink.NeedsAll (IsFront known p 0) (IsFrontRead p 0) _ _
          (g.S.Sources.IsLog c.args.sources.now) (front_none known p) (front_none_read p);
    }

pub returns-then-is_full-clause-ok : goal.returns-then-is_full-clause-ok
returns-then-is_full-clause-ok g c =
    let f = g.L.Segmented.form c.args.layout.now in
    let p = segment_at f.segments c.args.i in
    let inv = c.loop-from.invariant in
    let n : c.segment-segment.result.len ≡ len p = outline_len p c.segment-segment.result c.segment-segment.ensures in
    sent_full g.K.Sink.NeedsAll (g.S.Sources.known c.args.sources.now) f.sizes p c.loop-from.from _ _ _ _ _ _
    c.requires.file c.requires.sized (omega arith) c.if-is_full.ensures.unneeded c.if-is_full.ensures.unwritten
    c.if-is_full.ensures.full inv.sent

pub returns-in-Err-clause-front : goal.returns-in-Err-clause-front
returns-in-Err-clause-front g c = λ cs is.
    let p = segment_at (g.L.Segmented.form c.args.layout.now).segments c.args.i in
    let inv = c.loop-from.invariant in
    let n : c.segment-segment.result.len ≡ len p = outline_len p c.segment-segment.result c.segment-segment.ensures in
    front_written (g.S.Sources.known c.args.sources.now) p inv.sent.bytes c.loop-from.from cs _ _ is
    (omega arith) inv.sent.are.0 inv.sent.written

pub returns-in-Err-put-clause-front : goal.returns-in-Err-put-clause-front
returns-in-Err-put-clause-front g c = λ cs is.
    let p = segment_at (g.L.Segmented.form c.args.layout.now).segments c.args.i in
    let inv = c.loop-from.invariant in
    let n : c.segment-segment.result.len ≡ len p = outline_len p c.segment-segment.result c.segment-segment.ensures in
    let m : length c.piece.new.out ≡ c.min-n.result =
    c.piece.auto.out ∙ length-take c.min-n.result c.loop-from.buffer ∙ omega arith in
    front_broken (g.S.Sources.known c.args.sources.now) p inv.sent.bytes c.piece.new.out c.loop-from.from cs _ _ _ is
    (omega arith) inv.sent.are.0 (piece_known _ _ p _ _ inv.known c.in-Ok.ensures.ok) inv.sent.written
    c.in-Err-put.ensures.text

pub loop-from-preserved : goal.loop-from-preserved
loop-from-preserved g c =
    let p = segment_at (g.L.Segmented.form c.args.layout.now).segments c.args.i in
    let inv = c.loop-from.invariant in
    let m : length c.piece.new.out ≡ c.min-n.result =
    c.piece.auto.out ∙ length-take c.min-n.result c.loop-from.buffer ∙ omega arith in
    record {
      within = omega arith;
      words = λ more. let here = inv.words c.loop-from-test.true in let whole = c.requires.words in omega arith;
      room = length-append c.piece.new.out (drop c.min-n.result c.loop-from.buffer)
          ∙ omega (arith, length-drop c.min-n.result c.loop-from.buffer);
      known = c.piece.ensures.known ∙ inv.known;
      files = c.piece.ensures.files ∙ inv.files;
      names = c.piece.ensures.names ∙ inv.names;
      read = c.in-Ok.ensures.quiet ∙ inv.read;
      loan = c.put.ensures.loan ∙ inv.loan;
      wrote = c.in-Ok-put.ensures.count ∙ inv.wrote;
      sent = sent_piece g.K.Sink.NeedsAll (g.S.Sources.known c.args.sources.now)
          (g.S.Sources.known c.loop-from.sources) p c.loop-from.from c.min-n.result _ _ _ _ _ _ _ _ _ c.piece.new.out
          inv.known m inv.sent c.in-Ok.ensures.ok c.in-Ok.ensures.read c.in-Ok-put.ensures.text c.put.ensures.sum;
    }
