use Rattle.std.proofs.Common.{refl}
use Rattle.record_forest.proofs.traversal.start.Goals as goal

pub returns-clause-visited : goal.returns-clause-visited
returns-clause-visited c = rw (c.in_ok-insert.ensures.keys, c.new-visited.ensures.empty) refl
