use Rattle.plan_rows.proofs.Capacities.{no_links_is}
use Rattle.plan_rows.proofs.lines.has_no_links.Goals as goal

pub returns : goal.returns
returns c = rw c.capacity.ensures (no_links_is c.args.format)
