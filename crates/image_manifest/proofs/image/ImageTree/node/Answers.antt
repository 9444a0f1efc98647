use Rattle.image_manifest.proofs.Known.{node_known}
use Rattle.image_manifest.proofs.image.ImageTree.node.Goals as goal

pub returns : goal.returns
returns g c =
    node_known (g.T.Viewed.image c.args.self.now.image.now) c.args.self.now.members.now c.args.index _
    c.args.self.now.are c.requires
