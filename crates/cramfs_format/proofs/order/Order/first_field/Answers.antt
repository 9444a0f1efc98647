use Rattle.std.proofs.Common.{arith}
use Rattle.cramfs_format.proofs.Shifts.{upper_below}
use Rattle.cramfs_format.proofs.order.Order.first_field.Goals as goal

pub returns-in-Big-clause-small : goal.returns-in-Big-clause-small
returns-in-Big-clause-small c =
    upper_below c.args.word c.args.bits c.requires.few (let f = c.ranges.word.fits in omega arith)
