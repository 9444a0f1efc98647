use Rattle.plan_rows.proofs.Capacities.{long_volume_is}
use Rattle.plan_rows.proofs.lines.is_long_volume.Goals as goal

pub returns : goal.returns
returns c = long_volume_is c.args.format c.args.len c.is_above.result (rw c.capacity.ensures at c.is_above.ensures)
