use Rattle.std.proofs.Common.{refl, arith}
use Rattle.cramfs_format.specs.Superblock.{short, no_magic}
use Rattle.cramfs_image.proofs.superblock.read_superblock.Goals as goal

pub returns-then-bytes-lt76-clause-fault : goal.returns-then-bytes-lt76-clause-fault
returns-then-bytes-lt76-clause-fault c = short (omega arith) refl

pub returns-in_default-clause-fault : goal.returns-in_default-clause-fault
returns-in_default-clause-fault c = no_magic (omega arith) (λ e. c.in_default.ensures.other (omega arith, e)) refl
