use Rattle.std.proofs.Common.{arith}
use Rattle.romfs_format.proofs.Trees.{known, named}
use Rattle.romfs_image.proofs.Calls.{stat_is}
use Rattle.romfs_image.proofs.image.RomfsTreeImage.stat.Goals as goal

pub word-front-requires : goal.word-front-requires
word-front-requires c = let h = (known c.args.self.now.sound c.args.n.0 c.requires).sound.header in omega arith

pub word-spec-requires : goal.word-spec-requires
word-spec-requires c = let h = (known c.args.self.now.sound c.args.n.0 c.requires).sound.header in omega arith

pub word-size-requires : goal.word-size-requires
word-size-requires c = let h = (known c.args.self.now.sound c.args.n.0 c.requires).sound.header in omega arith

pub returns : goal.returns
returns c = λ x e. stat_is c.args.self.now.accessible.bytes.now c.args.self.now.accessible.root
    c.args.self.now.references c.args.n.0 _ _ _ _ _ _ _ _ x (named c.args.self.now.sound c.args.n.0 x e).0
    c.word-front.ensures c.word-spec.ensures c.word-size.ensures c.kind_at.ensures c.mode_at.ensures c.file_at.ensures
    c.device_at.ensures c.device_at-2.ensures
