use Rattle.std.proofs.Common.{refl}
use Rattle.manifest.proofs.seeded.SeededBuildHasher.build_hasher.Goals as goal

pub returns : goal.returns
returns c = refl
