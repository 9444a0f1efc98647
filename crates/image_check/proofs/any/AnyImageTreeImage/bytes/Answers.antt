use Rattle.image_check.proofs.any.AnyImageTreeImage.bytes.Goals as goal

pub returns-in-Cramfs : goal.returns-in-Cramfs
returns-in-Cramfs c = rw c.in-Cramfs.is c.bytes-in-Cramfs.ensures
