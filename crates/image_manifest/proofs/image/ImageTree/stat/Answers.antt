use Rattle.std.proofs.Common.{refl}
use Rattle.image_manifest.proofs.Made.{in_members}
use Rattle.image_manifest.proofs.image.ImageTree.stat.Goals as goal

pub node-node-requires : goal.node-node-requires
node-node-requires g c κs =
    let s = c.args.self.now in (
      (refl, (refl, tt)),
      in_members s.giving (g.T.Viewed.image s.image.now) s.members.now s.kinds.now s.are (s.fit s.giving) c.args.index
          c.requires,
    )
