use Rattle.std.proofs.Common.{refl}
use Rattle.path_walk.proofs.error.WalkError.name.Goals as goal

pub returns-in-Enoent : goal.returns-in-Enoent
returns-in-Enoent c = rw c.in-Enoent.is refl
