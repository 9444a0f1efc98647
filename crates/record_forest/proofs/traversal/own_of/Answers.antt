use Rattle.std.proofs.Common.{refl}
use Rattle.record_forest.proofs.traversal.own_of.Goals as goal

pub returns : goal.returns
returns c = refl
