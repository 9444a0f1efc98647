use Rattle.image_check.proofs.any.AnyImage.again.Goals as goal

pub again-requires : goal.again-requires
again-requires c = let r = c.requires in rw c.in-Romfs.is at r

pub returns-in-Romfs-clause-tree : goal.returns-in-Romfs-clause-tree
returns-in-Romfs-clause-tree c = rw c.in-Romfs.is c.again.ensures.tree

pub returns-in-Romfs-clause-cursors : goal.returns-in-Romfs-clause-cursors
returns-in-Romfs-clause-cursors c = rw c.in-Romfs.is c.again.ensures.cursors
