use Rattle.image_manifest.proofs.Known.{known}
use Rattle.image_manifest.proofs.image.ImageTree.member.Goals as goal

pub returns : goal.returns
returns g c =
    known c.args.self.now.giving (g.T.Viewed.image c.args.self.now.image.now) c.args.self.now.members.now c.args.index _
    c.args.self.now.are c.requires.within c.requires.inner
