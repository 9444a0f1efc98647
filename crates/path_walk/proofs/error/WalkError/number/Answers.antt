use Rattle.std.proofs.Common.{refl}
use Rattle.path_walk.proofs.error.WalkError.number.Goals as goal

pub returns-in-Eloop : goal.returns-in-Eloop
returns-in-Eloop c = rw c.in-Eloop.is refl
