use Rattle.std.proofs.Common.{◌∙◌, ap, sym}
use Rattle.rom_tree.proofs.Named.{node_number}
use Rattle.cramfs_format.specs.Inode.{name_room}
use Rattle.cramfs_image.specs.Reported.{order_in}
use Rattle.linux_misreads.specs.Tables.{view}
use Rattle.linux_misreads.proofs.Alike.{cramfs_alike}
use Rattle.linux_misreads.proofs.names.found_in_cramfs.Goals as goal

pub returns : goal.returns
returns c = λ x e.
    cramfs_alike _ _ _ _ _ c.cramfs_misreads.result c.cramfs_misreads.ensures (c.text_at-text.ensures x e)
    (c.seen_in_cramfs-seen.ensures x e)
    (c.name_room_at-room.ensures ∙ ap (name_room (order_in c.args.image.now) c.args.image.now.all.now)
    (sym (node_number (view c.args.image.now) c.args.n.0 x e)))
    (c.kept_at.ensures x e)
