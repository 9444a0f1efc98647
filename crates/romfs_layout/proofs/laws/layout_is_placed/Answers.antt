use Rattle.romfs_layout.proofs.Image.{tree_in, has_tree, has_name}
use Rattle.romfs_layout.proofs.OwnPlaces.{has_apart}
use Rattle.romfs_layout.proofs.Shaped.{bytes_in, has_runs}
use Rattle.romfs_layout.proofs.laws.layout_is_placed.Goals as goal

pub returns-clause-runs : goal.returns-clause-runs
returns-clause-runs c = λ volume root n contents h. (
  tree_in (bytes_in volume root n contents) volume n,
  has_tree volume root n contents h,
  has_runs volume root n contents h,
)

pub returns-clause-apart : goal.returns-clause-apart
returns-clause-apart c = λ volume root n contents h. (
  tree_in (bytes_in volume root n contents) volume n,
  has_tree volume root n contents h,
  has_apart volume root n contents h,
)

pub returns-clause-named : goal.returns-clause-named
returns-clause-named c = has_name
