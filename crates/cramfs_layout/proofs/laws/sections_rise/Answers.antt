use Rattle.cramfs_layout.proofs.Sectioned.{rise}
use Rattle.cramfs_layout.proofs.laws.sections_rise.Goals as goal

pub returns : goal.returns
returns c = rise
