use Rattle.image_info.proofs.Forests.{romfs_is, cramfs_is}
use Rattle.image_info.proofs.laws.of_the_tree.Goals as goal

pub returns-clause-romfs : goal.returns-clause-romfs
returns-clause-romfs c = romfs_is

pub returns-clause-cramfs : goal.returns-clause-cramfs
returns-clause-cramfs c = cramfs_is
