use Rattle.manifest.specs.Entries.{line_of}
use Rattle.build_commands.proofs.Capacities.{within_is}
use Rattle.build_commands.proofs.nearest.nearest.Goals as goal

pub returns : goal.returns
returns c = rw (c.within.ensures, c.capacity.ensures) (within_is c.args.format (line_of c.args.line))
