use Rattle.image_check.proofs.any.AnyImageTreeImage.run.Goals as goal

pub returns-in-Cramfs-clause-row : goal.returns-in-Cramfs-clause-row
returns-in-Cramfs-clause-row c = rw c.in-Cramfs.is c.run-in-Cramfs.ensures.row

pub returns-in-Cramfs-clause-whole : goal.returns-in-Cramfs-clause-whole
returns-in-Cramfs-clause-whole c = rw c.in-Cramfs.is c.run-in-Cramfs.ensures.whole

pub returns-in-Cramfs-clause-part : goal.returns-in-Cramfs-clause-part
returns-in-Cramfs-clause-part c = rw c.in-Cramfs.is c.run-in-Cramfs.ensures.block
