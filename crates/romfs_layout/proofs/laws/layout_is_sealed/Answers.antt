use Rattle.romfs_layout.proofs.Sealed.{is_sealed}
use Rattle.romfs_layout.proofs.laws.layout_is_sealed.Goals as goal

pub returns : goal.returns
returns c = is_sealed
