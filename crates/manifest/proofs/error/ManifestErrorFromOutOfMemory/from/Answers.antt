use Rattle.std.proofs.Common.{refl}
use Rattle.manifest.proofs.error.ManifestErrorFromOutOfMemory.from.Goals as goal

pub returns : goal.returns
returns c = refl
