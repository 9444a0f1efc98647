use Rattle.linux_misreads.proofs.Alike.{romfs_alike}
use Rattle.linux_misreads.proofs.names.found_in_romfs.Goals as goal

pub returns : goal.returns
returns c = λ x e.
    romfs_alike _ _ _ _ c.romfs_misreads.result c.romfs_misreads.ensures (c.text_at-text.ensures x e)
    (c.seen_in_romfs-seen.ensures x e) (c.place_at.ensures x e)
