use Rattle.std.proofs.Common.{arith}
use Rattle.cramfs_format.proofs.Shifts.{rest_below}
use Rattle.cramfs_format.proofs.order.Order.field_after.Goals as goal

pub returns-in-Little-clause-small : goal.returns-in-Little-clause-small
returns-in-Little-clause-small c =
    rest_below c.args.word c.args.bits c.requires.some c.requires.few (let f = c.ranges.word.fits in omega arith)
