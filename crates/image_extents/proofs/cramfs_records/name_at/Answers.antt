use Rattle.std.proofs.Common.{◌∙◌}
use Rattle.cramfs_image.proofs.Calls.{name_slice}
use Rattle.image_extents.proofs.cramfs_records.name_at.Goals as goal

pub returns : goal.returns
returns c =
    c.cut_zeros.ensures
    ∙ name_slice c.args.order c.args.b.now c.args.at c.room_at-room.result c.room_at-room.ensures.room
