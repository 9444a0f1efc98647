use Rattle.std.proofs.Common.{◌∙◌}
use Rattle.image_stream.specs.Segments.{segment_at}
use Rattle.image_stream.proofs.Puts.{window_filled}
use Rattle.image_stream.proofs.writing.fill_segment.Goals as goal

pub returns-in-None : goal.returns-in-None
returns-in-None g c = window_filled c.args.contents.now
    (segment_at (g.L.Segmented.form c.args.layout.now).segments c.args.i) c.segment.result c.fill.new.out
    c.segment.ensures c.in-None.is (c.fill.auto.out ∙ c.requires.room) c.fill.ensures
