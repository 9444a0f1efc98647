use Rattle.image_extents.proofs.CramfsBytes.{cramfs_bytes}
use Rattle.image_extents.proofs.RomfsBytes.{romfs_bytes}
use Rattle.image_extents.proofs.laws.data_are_of_files.Goals as goal

pub returns-clause-romfs : goal.returns-clause-romfs
returns-clause-romfs c = λ all r e h a. romfs_bytes all r e h a

pub returns-clause-cramfs : goal.returns-clause-cramfs
returns-clause-cramfs c = λ o all e h a. cramfs_bytes o all e h a
