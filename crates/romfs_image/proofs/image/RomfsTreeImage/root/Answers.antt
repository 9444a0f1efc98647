use Rattle.std.proofs.Common.{sym}
use Rattle.romfs_format.proofs.Trees.{made_ino}
use Rattle.romfs_image.proofs.image.RomfsTreeImage.root.Goals as goal

pub returns : goal.returns
returns c = sym (made_ino c.args.self.now.accessible.bytes.now c.args.self.now.accessible.root
    c.args.self.now.references c.args.self.now.accessible.root)
