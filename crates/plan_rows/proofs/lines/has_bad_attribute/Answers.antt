use Rattle.plan_rows.proofs.Capacities.{exceeds_is}
use Rattle.plan_rows.specs.Misfits.{without_bytes}
use Rattle.plan_rows.proofs.lines.has_bad_attribute.Goals as goal

pub returns : goal.returns
returns c = rw (c.exceeds.ensures, c.capacity.ensures) (exceeds_is c.args.format (without_bytes c.args.line.now))
