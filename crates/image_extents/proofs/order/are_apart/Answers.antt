use Rattle.std.proofs.Common.{arith}
use Rattle.image_extents.proofs.Chain.{chained_apart}
use Rattle.image_extents.proofs.order.are_apart.Goals as goal

pub returns : goal.returns
returns c =
    chained_apart c.args.extents.now
    (λ k d lt. c.loop-i.invariant.chained k d (let f = c.loop-i-test.false in omega (arith, lt, f)))
