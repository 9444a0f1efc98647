use Rattle.std.proofs.Common.{◌≡◌, take}
use Rattle.romfs_image.proofs.Offsets.{offsets}
use Rattle.romfs_image.proofs.rows.offsets_of.Given as goal

abbrev pub invariant-rows : goal.invariant-rows
invariant-rows l = l.offsets.items ≡ offsets (take l.row-index l.rows)
