use Rattle.std.proofs.Common.{refl}
use Rattle.open_files.proofs.error.CallErrorFromWalkError.from.Goals as goal

pub returns-in-Eloop : goal.returns-in-Eloop
returns-in-Eloop c = rw c.in-Eloop.is refl
