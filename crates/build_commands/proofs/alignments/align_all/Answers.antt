use Rattle.build_commands.proofs.Aligning.{either_in_order}
use Rattle.build_commands.proofs.alignments.align_all.Goals as goal

pub returns-clause-order : goal.returns-clause-order
returns-clause-order c = λ o.
    either_in_order c.args.aligns.now c.args.found.now c.align_each.new.found c.share_alignments.new.found
    c.share_alignments.result c.align_each.ensures c.share_alignments.ensures.shared
    c.share_alignments.ensures.unchanged o
