use Rattle.std.proofs.Common.{◌+◌, arith}
use Rattle.image_info.proofs.Left.{left_more, left_done}
use Rattle.image_info.proofs.spans.left_by.Goals as goal

pub spans-preserved : goal.spans-preserved
spans-preserved c =
    left_more c.args.spans.now c.spans.x-index c.spans.left c.spans.reach c.args.size
    (c.spans.left + c.saturating_sub-left.result) c.max-reach.result c.requires c.spans-test.true c.spans.invariant
    (let m = c.min.ensures in let s = c.saturating_sub-left.ensures in omega (arith, m, s))
    (let m = c.end_within.ensures in let s = c.max-reach.ensures in grind (arith, m, s))

pub returns : goal.returns
returns c =
    left_done c.args.spans.now c.spans.x-index c.spans.left c.spans.reach c.args.size (omega arith) c.spans.invariant
