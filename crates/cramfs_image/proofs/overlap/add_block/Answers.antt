use Rattle.cramfs_image.proofs.Joined.{block_joined}
use Rattle.cramfs_image.proofs.overlap.add_block.Goals as goal

pub returns-then-follows-clause-extents : goal.returns-then-follows-clause-extents
returns-then-follows-clause-extents c = block_joined c.args.extents.now.items c.args.run.start c.args.run.len
    c.args.next (c.follows.ensures.0 c.if-follows.true) c.requires.whole
