use Rattle.std.proofs.Common.{◌∙◌}
use Rattle.build_commands.proofs.Aligned.{shared_all}
use Rattle.build_commands.proofs.alignments.share_alignments.Goals as goal

pub returns-clause-shared : goal.returns-clause-shared
returns-clause-shared c =
    c.share.ensures
    ∙ shared_all c.args.found.now c.in_ok-largest.largest c.in_ok-largest.ensures c.args.found.now
