use Rattle.std.proofs.Common.{◌∙◌}
use Rattle.image_check.proofs.any.AnyImage.parts.Goals as goal

pub returns-in-Cramfs-clause-are : goal.returns-in-Cramfs-clause-are
returns-in-Cramfs-clause-are c = rw c.in-Cramfs.is c.parts-in-Cramfs.ensures.are

pub returns-in-Cramfs-clause-tree : goal.returns-in-Cramfs-clause-tree
returns-in-Cramfs-clause-tree c = rw c.in-Cramfs.is c.parts-in-Cramfs.ensures.tree

pub returns-in-Cramfs-clause-format : goal.returns-in-Cramfs-clause-format
returns-in-Cramfs-clause-format c =
    λ all h. let k = rw c.in-Cramfs.is at h in (k.0, c.parts-in-Cramfs.ensures.order ∙ k.1)
