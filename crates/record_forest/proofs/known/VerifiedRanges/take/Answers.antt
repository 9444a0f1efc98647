use Rattle.std.proofs.Common.{rules}
use Rattle.record_forest.proofs.known.VerifiedRanges.take.Goals as goal

pub returns-clause-has : goal.returns-clause-has
returns-clause-has c = (search rules, c.if-end-at.false)
