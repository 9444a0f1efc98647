use Rattle.std.proofs.Common.{rules}
use Rattle.build_commands.proofs.Joining.{all_joined}
use Rattle.build_commands.proofs.equal.join_all.Goals as goal

pub returns : goal.returns
returns c =
    all_joined c.args.inodes.now c.args.found.now c.loop-index.found c.loop-index.index (search rules)
    c.loop-index.invariant
