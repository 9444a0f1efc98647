use Rattle.std.proofs.Common.{refl, arith}
use Rattle.std.proofs.lemmas.Grind.{common_steps}
use Rattle.record_forest.proofs.traversal.lesser_offset.Goals as goal

pub returns-in-None : goal.returns-in-None
returns-in-None c = rw c.in-None.is refl

pub returns-then-least-at : goal.returns-then-least-at
returns-then-least-at c = grind (arith, common_steps)

pub returns-else-least-at : goal.returns-else-least-at
returns-else-least-at c = grind (arith, common_steps)
