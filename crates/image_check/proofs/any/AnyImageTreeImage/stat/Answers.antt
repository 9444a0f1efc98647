use Rattle.image_check.proofs.any.AnyImageTreeImage.stat.Goals as goal

pub returns-in-Romfs : goal.returns-in-Romfs
returns-in-Romfs c = rw c.in-Romfs.is c.stat.ensures
