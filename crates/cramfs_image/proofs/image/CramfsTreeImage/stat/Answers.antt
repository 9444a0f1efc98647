use Rattle.cramfs_format.proofs.Trees.{known, named}
use Rattle.cramfs_image.proofs.Calls.{stat_is}
use Rattle.cramfs_image.proofs.image.CramfsTreeImage.stat.Goals as goal

pub type_at-t-requires : goal.type_at-t-requires
type_at-t-requires c = (known c.args.self.now.sound c.args.n.0 c.requires).header

pub size_at-size-requires : goal.size_at-size-requires
size_at-size-requires c = (known c.args.self.now.sound c.args.n.0 c.requires).header

pub mode_at-requires : goal.mode_at-requires
mode_at-requires c = (known c.args.self.now.sound c.args.n.0 c.requires).header

pub uid_at-requires : goal.uid_at-requires
uid_at-requires c = (known c.args.self.now.sound c.args.n.0 c.requires).header

pub gid_at-requires : goal.gid_at-requires
gid_at-requires c = (known c.args.self.now.sound c.args.n.0 c.requires).header

pub file_len-requires : goal.file_len-requires
file_len-requires c = (known c.args.self.now.sound c.args.n.0 c.requires).header

pub returns : goal.returns
returns c = λ x e. stat_is c.args.self.now.accessible.order c.args.self.now.accessible.bytes.now
    c.args.self.now.references c.args.n.0 _ _ _ _ _ _ _ _ _ x (named c.args.self.now.sound c.args.n.0 x e).0
    c.type_at-t.ensures c.size_at-size.ensures.size c.kind_named_by.ensures c.mode_at.ensures.mode c.uid_at.ensures
    c.gid_at.ensures c.file_len.ensures c.of_device.ensures c.of_device-2.ensures
