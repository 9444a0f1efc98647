use Rattle.linux_misreads.proofs.Devices.{kept}
use Rattle.linux_misreads.proofs.laws.romfs_device_numbers.Goals as goal

pub returns : goal.returns
returns c = λ s x i d. kept s x i d
