use Rattle.std.proofs.Common.{refl}
use Rattle.record_forest.proofs.traversal.enter.Goals as goal

pub returns-clause-stack : goal.returns-clause-stack
returns-clause-stack c =
    rw (c.in_ok-push-3.ensures.items, c.own_of.ensures) (rw (c.in_ok-push-2.ensures.items, c.after_of.ensures) refl)
