use Rattle.manifest_layout.proofs.Fitting.{fitting}
use Rattle.manifest_layout.proofs.laws.fitting_is_planned.Goals as goal

pub returns : goal.returns
returns c = fitting
