use Rattle.cramfs_format.specs.Tree.{tree_of}
use Rattle.cramfs_layout.specs.Layout.{layout}
use Rattle.cramfs_layout.proofs.Whole.{all_spots}
use Rattle.cramfs_layout.proofs.Image.{has_tree, has_name}
use Rattle.cramfs_layout.proofs.Shaped.{has_runs}
use Rattle.cramfs_layout.proofs.SharedTables.{has_shares}
use Rattle.cramfs_layout.proofs.laws.layout_is_placed.Goals as goal

pub returns-clause-runs : goal.returns-clause-runs
returns-clause-runs c = λ o volume root n contents A h al. (
  tree_of o (layout o volume root n contents) (all_spots n),
  has_tree o volume root n contents h,
  has_runs o volume root n contents A h al,
)

pub returns-clause-shared : goal.returns-clause-shared
returns-clause-shared c = λ o volume root n contents h. (
  tree_of o (layout o volume root n contents) (all_spots n),
  has_tree o volume root n contents h,
  has_shares o volume root n contents h,
)

pub returns-clause-named : goal.returns-clause-named
returns-clause-named c = has_name
