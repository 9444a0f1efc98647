use Rattle.image_check.proofs.any.AnyImageTreeImage.entry.Goals as goal

pub returns-in-Cramfs : goal.returns-in-Cramfs
returns-in-Cramfs c = rw c.in-Cramfs.is c.entry-in-Cramfs.ensures
