use Rattle.std.proofs.Common.{refl}
use Rattle.lookups.proofs.short.short_name.Goals as goal

pub returns-in-Ok-clause-directory : goal.returns-in-Ok-clause-directory
returns-in-Ok-clause-directory c = refl
