use Rattle.image_check.proofs.any.AnyImageTreeImage.root.Goals as goal

pub returns-in-Romfs : goal.returns-in-Romfs
returns-in-Romfs c = rw c.in-Romfs.is c.root.ensures
