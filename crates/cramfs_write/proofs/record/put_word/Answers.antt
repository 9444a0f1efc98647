use Rattle.std.proofs.Common.{◌∙◌, ◌+◌, ap, take}
use Rattle.cramfs_write.proofs.Puts.{word_put}
use Rattle.cramfs_write.proofs.record.put_word.Goals as goal

pub returns-clause-put : goal.returns-clause-put
returns-clause-put c =
    ap (take (c.args.start + 4)) c.put_word.ensures
    ∙ word_put c.args.order c.args.out.now c.args.start c.args.word c.requires
