use Rattle.std.proofs.Common.{refl}
use Rattle.manifest.proofs.names.NameFromVecU8.from.Goals as goal

pub returns : goal.returns
returns c = refl
