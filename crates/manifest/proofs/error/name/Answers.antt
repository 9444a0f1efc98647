use Rattle.std.proofs.Common.{sym, ap}
use Rattle.manifest.specs.Errors.{name_of_fault}
use Rattle.manifest.proofs.error.name.Goals as goal

pub returns-in-7 : goal.returns-in-7
returns-in-7 c = ap name_of_fault (sym c.in-7.is)
