use Rattle.std.proofs.Common.{sym, ap}
use Rattle.image_build.specs.Builds.{of_manifest}
use Rattle.image_build.proofs.error.BuildErrorFromManifestError.from.Goals as goal

pub returns-in-Bad : goal.returns-in-Bad
returns-in-Bad c = sym (ap of_manifest c.in-Bad.is)
