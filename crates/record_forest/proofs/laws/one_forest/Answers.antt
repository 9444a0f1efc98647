use Rattle.record_forest.proofs.Same.{same_forest}
use Rattle.record_forest.proofs.laws.one_forest.Goals as goal

pub returns : goal.returns
returns c = same_forest
