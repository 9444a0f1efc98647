use Rattle.std.proofs.Common.{sym, ◌∙◌}
use Rattle.image_manifest.proofs.Lined.{all_short}
use Rattle.image_manifest.specs.ExtractedMembers.{members_in}
use Rattle.image_manifest.proofs.Known.{path_known}
use Rattle.image_manifest.proofs.Made.{in_all, in_members}
use Rattle.tree_extract.proofs.Chosen.{path_with}
use Rattle.image_manifest.proofs.image.ImageTree.path.Goals as goal

pub path_of-requires : goal.path_of-requires
path_of-requires g c =
    let s = c.args.self.now in
    let m = g.T.Viewed.image s.image.now in record {
      within = in_members s.giving m s.members.now s.kinds.now s.are (s.fit s.giving) c.args.index c.requires;
      short = all_short m s.members.now s.are c.args.index;
    }

pub returns : goal.returns
returns g c =
    let s = c.args.self.now in
    let m = g.T.Viewed.image s.image.now in
    c.path_of.ensures
    ∙ path_known s.giving m s.members.now c.args.index s.are
    (in_all s.giving m s.members.now s.kinds.now s.are (s.fit s.giving) c.args.index c.requires)
    ∙ sym (path_with (members_in s.giving m) s.kinds.now c.args.index)
