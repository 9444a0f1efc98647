use Rattle.std.proofs.Common.{sym}
use Rattle.build_commands.proofs.Fitted.{before_none, before_at}
use Rattle.build_commands.proofs.fits.directory_of.Goals as goal

pub returns-in-None : goal.returns-in-None
returns-in-None c = sym (before_none 47 c.args.path.now c.in-None.ensures)

pub returns-in-Some : goal.returns-in-Some
returns-in-Some c = before_at 47 c.args.path.now c.in-Some.last c.in-Some.ensures.0 c.in-Some.ensures.1
