use Rattle.cramfs_layout.proofs.Joined.{is_composed, long}
use Rattle.cramfs_layout.proofs.laws.sections_make_layout.Goals as goal

pub returns-clause-bytes : goal.returns-clause-bytes
returns-clause-bytes c = is_composed

pub returns-clause-length : goal.returns-clause-length
returns-clause-length c = long
