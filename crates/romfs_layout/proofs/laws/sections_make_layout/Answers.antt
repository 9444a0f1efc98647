use Rattle.romfs_layout.proofs.Composed.{is_composed, are_long}
use Rattle.romfs_layout.proofs.laws.sections_make_layout.Goals as goal

pub returns-clause-bytes : goal.returns-clause-bytes
returns-clause-bytes c = is_composed

pub returns-clause-length : goal.returns-clause-length
returns-clause-length c = are_long
