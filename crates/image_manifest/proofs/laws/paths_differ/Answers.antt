use Rattle.image_manifest.proofs.Extractable.{paths_differ}
use Rattle.image_manifest.proofs.laws.paths_differ.Goals as goal

pub returns : goal.returns
returns c = paths_differ
