use Rattle.std.proofs.Common.{refl}
use Rattle.open_files.proofs.error.CallError.number.Goals as goal

pub returns-in-Erange : goal.returns-in-Erange
returns-in-Erange c = rw c.in-Erange.is refl
