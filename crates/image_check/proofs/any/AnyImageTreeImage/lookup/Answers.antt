use Rattle.image_check.proofs.any.AnyImageTreeImage.lookup.Goals as goal

pub returns-in-Romfs-clause-found : goal.returns-in-Romfs-clause-found
returns-in-Romfs-clause-found c = rw c.in-Romfs.is c.lookup.ensures.found
