use Rattle.manifest_layout.proofs.Sectioned.{rise}
use Rattle.manifest_layout.proofs.laws.sections_rise.Goals as goal

pub returns : goal.returns
returns c = rise
