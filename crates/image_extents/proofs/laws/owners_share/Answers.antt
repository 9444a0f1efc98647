use Rattle.cramfs_format.specs.Superblock.{accessible}
use Rattle.image_extents.proofs.FirstOwners.{cramfs_owners}
use Rattle.image_extents.proofs.laws.owners_share.Goals as goal

pub returns : goal.returns
returns c = λ o all e h a. cramfs_owners o (accessible o all) e a
