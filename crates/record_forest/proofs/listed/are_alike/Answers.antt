use Rattle.std.proofs.Common.{rules}
use Rattle.record_forest.proofs.listed.are_alike.Goals as goal

pub returns-then-one-other : goal.returns-then-one-other
returns-then-one-other c = (λ h. (c.if-one-other.true, search rules), λ h. search rules)
