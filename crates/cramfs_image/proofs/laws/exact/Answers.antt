use Rattle.cramfs_image.proofs.Faultless.{faultless_of_tree}
use Rattle.cramfs_image.proofs.Whole.{tree_of_faultless}
use Rattle.cramfs_image.proofs.laws.exact.Goals as goal

pub returns-clause-tree : goal.returns-clause-tree
returns-clause-tree c = faultless_of_tree

pub returns-clause-faultless : goal.returns-clause-faultless
returns-clause-faultless c = tree_of_faultless
