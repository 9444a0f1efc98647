use Rattle.image_stream.specs.Segments.{segment_at}
use Rattle.image_stream.proofs.Fronts.{outline_place}
use Rattle.image_stream.proofs.Images.{broken_gap, broken_body}
use Rattle.image_stream.proofs.Answering.{sent_segment}
use Rattle.image_stream.proofs.pieces.next_segment.Goals as goal

pub returns-in-Err-clause-front : goal.returns-in-Err-clause-front
returns-in-Err-clause-front g c = λ cs is.
    let p = segment_at (g.L.Segmented.form c.args.layout.now).segments c.args.i in
    broken_gap cs c.args.at c.segment-segment.result.place p _ _
    (outline_place p c.segment-segment.result c.segment-segment.ensures) c.in-Err.ensures.front

pub returns-in-Err-copy_segment-clause-front : goal.returns-in-Err-copy_segment-clause-front
returns-in-Err-copy_segment-clause-front g c = λ cs is.
    let p = segment_at (g.L.Segmented.form c.args.layout.now).segments c.args.i in
    let z = c.in-Ok.ensures.ok in
    broken_body cs c.args.at c.segment-segment.result.place p _ _ _ z.bytes
    (outline_place p c.segment-segment.result c.segment-segment.ensures) z.are z.written
    (c.in-Err-copy_segment.ensures.front cs is)

pub returns-clause-ok : goal.returns-clause-ok
returns-clause-ok g c =
    let p = segment_at (g.L.Segmented.form c.args.layout.now).segments c.args.i in
    sent_segment g.K.Sink.NeedsAll (g.S.Sources.known c.args.sources.now) c.args.at c.segment-segment.result.place
    p _ _ _ _ _ _ _ _ (outline_place p c.segment-segment.result c.segment-segment.ensures) c.in-Ok.ensures.ok
    c.in-Ok-copy_segment.ensures.ok
