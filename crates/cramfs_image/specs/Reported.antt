-- `image_of`, `report_of`, `order_in`: the tree of a checked image, what it reports, and its byte
-- order. (This project's own.)
use Rattle.rom_tree.specs.declared.types.Report.{Report}
use Rattle.rom_tree.specs.Image.{Image}
use Rattle.cramfs_format.specs.declared.order.Order.{Order}
use Rattle.cramfs_image.specs.declared.image.Cramfs.{Cramfs}
use Rattle.cramfs_image.specs.Cramfs.{cramfs_view}

-- all its bytes, and the tree of its accessible bytes
abbrev pub image_of : Cramfs → Image
image_of s = cramfs_view s.accessible.order s.all.now s.accessible.bytes.now s.references s.sound
    s.within

-- the number of its references, and its depth
abbrev pub report_of : Cramfs → Report
report_of s = record { references = s.references; depth = s.depth }

-- the byte order of an image
abbrev pub order_in : Cramfs → Order
order_in s = s.accessible.order
