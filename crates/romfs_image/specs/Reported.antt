-- `image_of`, `report_of`: the tree of a checked image, and what it reports. (This project's own.)
use Rattle.rom_tree.specs.declared.types.Report.{Report}
use Rattle.rom_tree.specs.Image.{Image}
use Rattle.romfs_image.specs.declared.image.Romfs.{Romfs}
use Rattle.romfs_image.specs.Romfs.{romfs_view}

-- all its bytes, and the tree of its accessible bytes
abbrev pub image_of : Romfs → Image
image_of s = romfs_view s.all.now s.accessible.bytes.now s.accessible.root s.references s.sound
    s.within

-- the number of its references, and its depth
abbrev pub report_of : Romfs → Report
report_of s = record { references = s.references; depth = s.depth }
