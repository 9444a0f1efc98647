use Rattle.std.proofs.Common.{◌∙◌, sym, subst}
use Rattle.build_commands.specs.Overlay.{AreInOrder}
use Rattle.build_commands.proofs.Joining.{sharing, still_in_order}
use Rattle.build_commands.proofs.equal.share_equal.Goals as goal

pub returns-clause-shared : goal.returns-clause-shared
returns-clause-shared c =
    sharing c.args.found.now c.join_all.new.found c.deref.result.now _ _ c.join_all.ensures
    (c.deref-3.ensures.value ∙ c.in_ok-inodes.ensures) (c.deref.ensures.value ∙ c.in_ok-firsts.ensures)

pub returns-clause-order : goal.returns-clause-order
returns-clause-order c = λ o.
    subst AreInOrder (sym c.join_all.ensures) (still_in_order c.args.found.now _ o)
