use Rattle.image_check.specs.Any.{any_view}
use Rattle.image_compare.proofs.Printed.{alike_put, alike_printed}
use Rattle.image_compare.proofs.lines.put_alike.Goals as goal

pub returns-clause-puts : goal.returns-clause-puts
returns-clause-puts g c = λ p q d e.
    alike_put c.args.places (any_view c.args.old.now).bytes (any_view c.args.new.now).bytes
    c.args.path.now p q _ _ (c.stat.ensures p d) (c.stat-2.ensures q e) _ _ _ _
    c.put_changed-changed.ensures.puts (c.put_compared-rewritten.ensures.puts p q d e)
    (c.put_places-moved.ensures.puts p q d e)

pub returns-clause-printed : goal.returns-clause-printed
returns-clause-printed g c = λ p q d e.
    alike_printed c.args.places (any_view c.args.old.now).bytes (any_view c.args.new.now).bytes
    c.args.path.now p q _ _ (c.stat.ensures p d) (c.stat-2.ensures q e) _ _ _ _ c.any.ensures
    c.put_changed-changed.ensures.printed (c.put_compared-rewritten.ensures.printed p q d e)
    (c.put_places-moved.ensures.printed p q d e)
