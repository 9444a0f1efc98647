use Rattle.image_check.specs.Any.{any_view}
use Rattle.image_compare.proofs.Printed.{puts_none, printed_none, printed_some, contents_same, contents_differ}
use Rattle.image_compare.proofs.Printed.{contents_put}
use Rattle.image_compare.proofs.Printed.{size_of}
use Rattle.image_compare.proofs.lines.put_compared.Goals as goal

pub returns-then-have-clause-puts : goal.returns-then-have-clause-puts
returns-then-have-clause-puts g c = λ p q d e.
    puts_none _ _ (contents_same c.args.path.now _ _ (c.if-have.ensures.is p q d e))

pub returns-then-have-clause-printed : goal.returns-then-have-clause-printed
returns-then-have-clause-printed g c = λ p q d e.
    printed_none _ (contents_same c.args.path.now _ _ (c.if-have.ensures.is p q d e))

pub returns-clause-puts : goal.returns-clause-puts
returns-clause-puts g c = λ p q d e. contents_put _ _ c.args.path.now _ _ _ _
    (size_of p (any_view c.args.old.now).bytes _ (c.stat.ensures p d))
    (size_of q (any_view c.args.new.now).bytes _ (c.stat-2.ensures q e))
    (c.if-have.ensures.is p q d e) c.put_contents.ensures

pub returns-clause-printed : goal.returns-clause-printed
returns-clause-printed g c = λ p q d e.
    printed_some _ _ _ (contents_differ c.args.path.now _ _ (c.if-have.ensures.is p q d e))
