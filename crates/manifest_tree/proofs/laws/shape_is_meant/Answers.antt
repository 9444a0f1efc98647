use Rattle.manifest_tree.proofs.Law.{meant}
use Rattle.manifest_tree.proofs.laws.shape_is_meant.Goals as goal

pub returns : goal.returns
returns c = meant
