use Rattle.image_compare.proofs.Stepped.{step_removed, step_added, step_both}
use Rattle.image_compare.proofs.steps.put_lesser.Goals as goal

pub returns-then-is_before-clause-puts : goal.returns-then-is_before-clause-puts
returns-then-is_before-clause-puts g c = λ p q ps qs d x e y.
    step_removed _ _ c.args.places _ _ p q ps qs _ _ _ d e
    d c.if-is_before.ensures c.put_removed.ensures

pub returns-then-is_before-2-clause-puts : goal.returns-then-is_before-2-clause-puts
returns-then-is_before-2-clause-puts g c = λ p q ps qs d x e y.
    step_added _ _ c.args.places _ _ p q ps qs _ _ _ _ _ d
    e e d
    e c.if-is_before.ensures c.if-is_before-2.ensures c.put_added.ensures

pub returns-clause-puts : goal.returns-clause-puts
returns-clause-puts g c = λ p q ps qs d x e y.
    step_both _ _ c.args.places _ _ p q ps qs _ _ _ _ _ c.put_nodes-printed.result d
    e e d
    d c.if-is_before.ensures c.if-is_before-2.ensures
    (c.put_nodes-printed.ensures.puts p.node q.node x y) (c.put_nodes-printed.ensures.printed p.node q.node x y)
