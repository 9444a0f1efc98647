use Rattle.image_check.proofs.any.AnyImageTreeImage.is_node.Goals as goal

pub returns-in-Cramfs : goal.returns-in-Cramfs
returns-in-Cramfs c = rw c.in-Cramfs.is c.is_node-in-Cramfs.ensures
