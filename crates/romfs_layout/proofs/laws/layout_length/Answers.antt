use Rattle.romfs_layout.proofs.Image.{has_length}
use Rattle.romfs_layout.proofs.laws.layout_length.Goals as goal

pub returns : goal.returns
returns c = has_length
