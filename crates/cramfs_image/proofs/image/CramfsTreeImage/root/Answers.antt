use Rattle.std.proofs.Common.{sym}
use Rattle.cramfs_format.specs.Refers.{root_place}
use Rattle.cramfs_format.proofs.Trees.{made_ino}
use Rattle.cramfs_image.proofs.image.CramfsTreeImage.root.Goals as goal

pub returns : goal.returns
returns c = sym (made_ino c.args.self.now.accessible.order c.args.self.now.accessible.bytes.now
    c.args.self.now.references root_place)
