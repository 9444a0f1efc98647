use Rattle.cramfs_layout.proofs.Compact.{are_compact}
use Rattle.cramfs_layout.proofs.laws.sections_are_compact.Goals as goal

pub returns : goal.returns
returns c = are_compact
