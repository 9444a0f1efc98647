use Rattle.romfs_format.specs.Record.{name_of}
use Rattle.romfs_image.proofs.Reading.{name_slice}
use Rattle.romfs_image.proofs.accessible.Accessible.name_at.Goals as goal

pub returns-in_default : goal.returns-in_default
unfolding name_of
returns-in_default c = absurd (c.in_default.ensures (c.requires.name_ends, c.requires.name_short))

pub returns : goal.returns
returns c = name_slice c.args.self.now.bytes.now c.args.at c.in-Some.len c.in-Some.ensures.1
