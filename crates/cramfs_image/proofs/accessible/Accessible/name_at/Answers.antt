use Rattle.std.proofs.Common.{◌∙◌}
use Rattle.cramfs_image.proofs.Calls.{name_slice}
use Rattle.cramfs_image.proofs.accessible.Accessible.name_at.Goals as goal

pub returns : goal.returns
returns c = c.cut_zeros.ensures ∙ name_slice c.args.self.now.order c.args.self.now.bytes.now c.args.at
    c.room_at-room.result c.room_at-room.ensures.room
