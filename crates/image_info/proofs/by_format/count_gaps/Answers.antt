use Rattle.std.proofs.Common.{subst}
use Rattle.image_info.specs.Gaps.{IsChecked}
use Rattle.image_info.proofs.by_format.count_gaps.Goals as goal

pub count_romfs-requires : goal.count_romfs-requires
count_romfs-requires c = subst IsChecked c.in-Romfs.is c.requires

pub count_cramfs-requires : goal.count_cramfs-requires
count_cramfs-requires c = subst IsChecked c.in-Cramfs.is c.requires
