use Rattle.cramfs_format.proofs.Bridge.{accepted}
use Rattle.cramfs_format.proofs.laws.made_of_bytes.Goals as goal

pub returns : goal.returns
returns c = accepted
