use Rattle.std.proofs.Common.{refl}
use Rattle.romfs_image.proofs.image.RomfsTreeImage.bytes.Goals as goal

pub returns : goal.returns
returns c = refl
