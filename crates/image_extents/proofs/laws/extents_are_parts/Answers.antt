use Rattle.image_extents.proofs.Parts.{cramfs_parts, romfs_parts}
use Rattle.image_extents.proofs.laws.extents_are_parts.Goals as goal

pub returns-clause-romfs : goal.returns-clause-romfs
returns-clause-romfs c = λ b r e a. romfs_parts b r e a

pub returns-clause-cramfs : goal.returns-clause-cramfs
returns-clause-cramfs c = λ o b e a. cramfs_parts o b e a
