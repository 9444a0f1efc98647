use Rattle.std.proofs.Common.{rules, subst, sym}
use Rattle.build_commands.specs.Overlay.{AreInOrder}
use Rattle.build_commands.specs.Rights.{changed}
use Rattle.build_commands.proofs.Attributed.{all_changed}
use Rattle.build_commands.proofs.Pathed.{changed_keeps, order_kept}
use Rattle.build_commands.proofs.rights.set_all.Goals as goal

pub returns-clause-set : goal.returns-clause-set
returns-clause-set c = λ o.
    all_changed c.args.found.now c.apply_all.new.found c.args.changes.now c.in_ok-notes.notes
    (c.in_ok-notes.ensures.noted o) c.apply_all.ensures (search rules)

pub returns-clause-order : goal.returns-clause-order
returns-clause-order c = λ o.
    subst AreInOrder (sym (returns-clause-set c o))
    (order_kept (changed c.args.found.now c.args.changes.now) (changed_keeps c.args.found.now c.args.changes.now)
    c.args.found.now o)
