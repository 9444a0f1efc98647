use Rattle.manifest_layout.proofs.Sectioned.{compact}
use Rattle.manifest_layout.proofs.laws.sections_are_compact.Goals as goal

pub returns : goal.returns
returns c = compact
