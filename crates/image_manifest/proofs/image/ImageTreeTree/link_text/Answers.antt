use Rattle.std.proofs.Common.{refl, sym, ◌∙◌}
use Rattle.image_manifest.specs.ExtractedMembers.{members_in}
use Rattle.image_manifest.proofs.Known.{no_link}
use Rattle.image_manifest.proofs.Made.{has_link, in_members, link_was}
use Rattle.tree_extract.proofs.Chosen.{bytes_with}
use Rattle.image_manifest.proofs.image.ImageTreeTree.link_text.Goals as goal

pub member-found-requires : goal.member-found-requires
member-found-requires g c κs =
    let s = c.args.self.now in
    let m = g.T.Viewed.image s.image.now in
    let fit = s.fit s.giving in (
      (refl, (refl, tt)),
      (
        in_members s.giving m s.members.now s.kinds.now s.are fit c.args.index c.requires.within,
        no_link s.giving m c.args.index
            (link_was s.giving m s.members.now s.kinds.now s.are fit c.args.index c.requires.within c.requires.link),
      ),
    )

pub link_text-text-requires : goal.link_text-text-requires
link_text-text-requires g c κs =
    let s = c.args.self.now in
    let m = g.T.Viewed.image s.image.now in (
      (refl, tt),
      has_link s.giving m c.args.index c.member-found.result c.member-found.ensures
          (link_was s.giving m s.members.now s.kinds.now s.are (s.fit s.giving) c.args.index c.requires.within
          c.requires.link),
    )

pub returns : goal.returns
returns g c =
    let s = c.args.self.now in
    let is = c.member-found.ensures in
    c.link_text-text.ensures is.node is.at ∙ sym is.bytes
    ∙ sym (bytes_with (members_in s.giving (g.T.Viewed.image s.image.now)) s.kinds.now c.args.index)
