use Rattle.std.proofs.Common.{ap, ◌∙◌, replicate, arith}
use Rattle.romfs_write.proofs.Puts.{header_built}
use Rattle.romfs_write.proofs.header.put_header.Goals as goal

pub returns : goal.returns
returns c =
    header_built c.clear.new.out c.put_word.new.out c.put_word-2.new.out c.put_word-3.new.out c.put.new.out
    c.put_word-4.new.out _ _ _ _ c.args.name.now
    (c.clear.ensures ∙ ap (λ n. replicate n 0) c.requires) c.put_word.ensures c.put_word-2.ensures c.put_word-3.ensures
    c.put.ensures (omega (arith, c.word_sum-sum.ensures)) c.put_word-4.ensures
