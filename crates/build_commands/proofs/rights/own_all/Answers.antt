use Rattle.std.proofs.Common.{refl, subst, sym, rules}
use Rattle.build_commands.specs.Overlay.{AreInOrder}
use Rattle.build_commands.specs.Rights.{owned}
use Rattle.build_commands.proofs.Mapped.{mapping_all}
use Rattle.build_commands.proofs.Pathed.{order_kept}
use Rattle.build_commands.proofs.rights.own_all.Goals as goal

pub returns-clause-owned : goal.returns-clause-owned
returns-clause-owned c =
    mapping_all (owned c.args.uid c.args.gid) c.args.found.now c.loop-index.found c.loop-index.index (search rules)
    c.loop-index.invariant

pub returns-clause-order : goal.returns-clause-order
returns-clause-order c = λ o.
    subst AreInOrder (sym (returns-clause-owned c))
    (order_kept (owned c.args.uid c.args.gid) (λ f. refl) c.args.found.now o)
