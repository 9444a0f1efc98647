use Rattle.romfs_format.proofs.Zeros.{ended}
use Rattle.romfs_image.proofs.superblock.zero_after.Goals as goal

pub returns : goal.returns
returns c = ended c.args.b.now c.args.at c.memchr-found.result c.requires c.memchr-found.ensures
