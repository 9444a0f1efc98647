use Rattle.std.proofs.Common.{rules}
use Rattle.std.specs.Ordering.{eq_by_cmp}
use Rattle.build_commands.proofs.Grouped.{all_grouped}
use Rattle.build_commands.proofs.equal.groups_of.Goals as goal

pub returns : goal.returns
returns g c = λ k.
    all_grouped (eq_by_cmp g.K.Ord.cmp) k c.args.keys.now c.loop-index.index _ (search rules) (c.loop-index.invariant k)
