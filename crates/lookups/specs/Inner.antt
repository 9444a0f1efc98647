-- `inner`: the image in an image with indices. (This project's own.)
use Rattle.rom_tree.specs.declared.image.Viewed.{Ghosts}
use Rattle.lookups.specs.declared.index.Indexed.{Indexed}

abbrev pub inner : {T : Type 0} {viewed : Ghosts T} → Indexed T viewed → T
inner s = s.image
