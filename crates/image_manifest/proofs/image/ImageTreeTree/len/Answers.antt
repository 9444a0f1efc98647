use Rattle.image_manifest.proofs.Made.{many_made}
use Rattle.image_manifest.proofs.image.ImageTreeTree.len.Goals as goal

pub returns : goal.returns
returns g c =
    let s = c.args.self.now in
    many_made s.giving (g.T.Viewed.image s.image.now) s.members.now s.kinds.now s.are (s.fit s.giving)
