use Rattle.image_extents.proofs.Complete.{cramfs_complete}
use Rattle.image_extents.proofs.RomfsComplete.{romfs_complete}
use Rattle.image_extents.proofs.laws.extents_are_complete.Goals as goal

pub returns-clause-romfs : goal.returns-clause-romfs
returns-clause-romfs c = λ all r e h a. romfs_complete all r e h a

pub returns-clause-cramfs : goal.returns-clause-cramfs
returns-clause-cramfs c = λ o all e h a. cramfs_complete o all e h a
