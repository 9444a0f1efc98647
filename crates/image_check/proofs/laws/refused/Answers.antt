use Rattle.image_check.proofs.Refused.{no_tree, least}
use Rattle.image_check.proofs.laws.refused.Goals as goal

pub returns-clause-tree : goal.returns-clause-tree
returns-clause-tree c = λ all limits h. no_tree all limits h

pub returns-clause-fault : goal.returns-clause-fault
returns-clause-fault c = λ all limits h. least all limits h
