use Rattle.romfs_layout.proofs.Compact.{are_compact}
use Rattle.romfs_layout.proofs.laws.sections_are_compact.Goals as goal

pub returns : goal.returns
returns c = are_compact
