use Rattle.romfs_format.proofs.Fronts.{found, found_none}
use Rattle.romfs_format.proofs.superblock.upto_zero.Goals as goal

pub returns-in-Some : goal.returns-in-Some
returns-in-Some c = found c.args.bytes.now c.in-Some.len c.in-Some.ensures

pub returns-in-None : goal.returns-in-None
returns-in-None c = found_none c.args.bytes.now c.in-None.ensures
