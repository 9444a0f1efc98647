use Rattle.std.proofs.Common.{ap, ◌∙◌, replicate}
use Rattle.romfs_write.proofs.Puts.{superblock_built}
use Rattle.romfs_write.proofs.header.put_superblock.Goals as goal

pub returns : goal.returns
returns c =
    superblock_built c.clear.new.out c.put.new.out c.put_word.new.out c.put_word-2.new.out c.put-2.new.out c.args.size
    c.args.sum c.args.volume.now
    (c.clear.ensures ∙ ap (λ n. replicate n 0) c.requires) c.put.ensures c.put_word.ensures c.put_word-2.ensures
    c.put-2.ensures
