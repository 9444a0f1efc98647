use Rattle.std.proofs.Common.{take, ap, ◌∙◌}
use Rattle.romfs_format.specs.Record.{before_zero}
use Rattle.image_info.specs.Volumes as volumes
use Rattle.image_info.proofs.superblock.volume_of_cramfs.Goals as goal

pub returns : goal.returns
unfolding volumes.cramfs_volume
returns c = c.upto_zero.ensures ∙ ap before_zero (c.first_bytes.ensures ∙ ap (take 16) c.bytes_from.ensures)
