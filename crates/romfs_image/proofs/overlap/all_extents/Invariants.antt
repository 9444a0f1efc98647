use Rattle.std.proofs.Common.{◌≡◌, take}
use Rattle.romfs_format.specs.Tree.{extents_of}
use Rattle.romfs_image.proofs.overlap.all_extents.Given as goal

abbrev pub invariant-rows : goal.invariant-rows
invariant-rows l = l.spans.items ≡ extents_of l.b.bytes.now l.b.root (take l.row-index l.rows)
