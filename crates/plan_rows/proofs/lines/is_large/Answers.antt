use Rattle.plan_rows.proofs.Capacities.{large_is}
use Rattle.plan_rows.proofs.lines.is_large.Goals as goal

pub returns : goal.returns
returns c = rw c.capacity.ensures (large_is c.args.format c.args.size)
