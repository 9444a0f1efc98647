use Rattle.std.proofs.Common.{refl, ◌∙◌}
use Rattle.image_manifest.specs.ExtractedMembers.{members_in}
use Rattle.image_manifest.proofs.Known.{no_file, whole_at_ok}
use Rattle.image_manifest.proofs.Made.{file_was, in_members}
use Rattle.tree_extract.proofs.Chosen.{bytes_with}
use Rattle.image_manifest.proofs.image.ImageTreeTree.write_contents.Goals as goal

pub member-found-requires : goal.member-found-requires
member-found-requires g c κs =
    let s = c.args.self.now in
    let m = g.T.Viewed.image s.image.now in
    let fit = s.fit s.giving in (
      (refl, (refl, tt)),
      (
        in_members s.giving m s.members.now s.kinds.now s.are fit c.args.index c.requires.within,
        no_file s.giving m c.args.index
            (file_was s.giving m s.members.now s.kinds.now s.are fit c.args.index c.requires.within c.requires.file),
      ),
    )

pub returns : goal.returns
returns g c =
    let s = c.args.self.now in
    let is = c.member-found.ensures in
    whole_at_ok c.cat.result _ _ _ _ (c.cat.ensures.text is.node is.at)
    (bytes_with (members_in s.giving (g.T.Viewed.image s.image.now)) s.kinds.now c.args.index ∙ is.bytes)
