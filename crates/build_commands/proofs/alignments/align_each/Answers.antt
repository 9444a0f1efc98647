use Rattle.std.proofs.Common.{rules}
use Rattle.build_commands.proofs.Aligning.{all_aligned}
use Rattle.build_commands.proofs.alignments.align_each.Goals as goal

pub returns : goal.returns
returns c =
    all_aligned c.args.aligns.now c.args.found.now c.loop-index.found c.loop-index.index (search rules)
    c.loop-index.invariant
