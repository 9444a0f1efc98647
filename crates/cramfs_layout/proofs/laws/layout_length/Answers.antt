use Rattle.cramfs_layout.proofs.Image.{has_length}
use Rattle.cramfs_layout.proofs.laws.layout_length.Goals as goal

pub returns : goal.returns
returns c = has_length
