use Rattle.image_stream.specs.Segments.{segment_at}
use Rattle.image_stream.proofs.Fronts.{piece_read}
use Rattle.image_stream.proofs.Results.{ok_weaker}
use Rattle.image_stream.proofs.pieces.piece.Goals as goal

pub returns-in-Some-clause-ok : goal.returns-in-Some-clause-ok
returns-in-Some-clause-ok g c = ok_weaker c.read_exactly.result
    (piece_read (g.S.Sources.known c.args.sources.now)
    (segment_at (g.L.Segmented.form c.args.layout.now).segments c.args.i) c.args.segment c.in-Some.file
    c.args.from c.read_exactly.new.buffer c.requires.is c.in-Some.is) c.read_exactly.ensures.ok
