use Rattle.std.proofs.Common.{sym, ap, ◌∙◌}
use Rattle.image_manifest.specs.ExtractedMembers.{members_in}
use Rattle.image_manifest.specs.Rights.{given_rights}
use Rattle.image_manifest.proofs.Known.{rights_known}
use Rattle.image_manifest.proofs.Made.{in_all}
use Rattle.tree_extract.proofs.Chosen.{rights_with}
use Rattle.image_manifest.proofs.image.ImageTree.rights.Goals as goal

pub returns : goal.returns
returns g c =
    let s = c.args.self.now in
    let m = g.T.Viewed.image s.image.now in
    c.rights.ensures ∙ ap (given_rights s.giving) c.stat-stat.ensures
    ∙ sym (rights_known s.giving m c.args.index
    (in_all s.giving m s.members.now s.kinds.now s.are (s.fit s.giving) c.args.index c.requires))
    ∙ sym (rights_with (members_in s.giving m) s.kinds.now c.args.index)
