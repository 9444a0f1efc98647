use Rattle.std.proofs.Common.{refl}
use Rattle.record_forest.proofs.answer.CheckErrorFromTraversalError.from.Goals as goal

pub returns-in-TooMany : goal.returns-in-TooMany
returns-in-TooMany c = rw c.in-TooMany.is refl

pub returns-in-Twice : goal.returns-in-Twice
returns-in-Twice c = rw c.in-Twice.is refl
