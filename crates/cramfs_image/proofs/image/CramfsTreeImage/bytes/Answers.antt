use Rattle.std.proofs.Common.{refl}
use Rattle.cramfs_image.proofs.image.CramfsTreeImage.bytes.Goals as goal

pub returns : goal.returns
returns c = refl
