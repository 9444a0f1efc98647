use Rattle.std.proofs.Common.{refl, sym, ◌∙◌}
use Rattle.image_manifest.proofs.Made.{in_kinds, kind_is_made}
use Rattle.image_manifest.proofs.image.ImageTreeTree.kind.Goals as goal

pub made-requires : goal.made-requires
made-requires g c κs =
    let s = c.args.self.now in (
      (refl, (refl, tt)),
      in_kinds s.giving (g.T.Viewed.image s.image.now) s.members.now s.kinds.now s.are (s.fit s.giving) c.args.index
          c.requires.within,
    )

pub returns : goal.returns
returns g c =
    let s = c.args.self.now in
    c.made.ensures
    ∙ sym (kind_is_made s.giving (g.T.Viewed.image s.image.now) s.members.now s.kinds.now s.are (s.fit s.giving)
    c.args.index c.requires.within)
