use Rattle.linux_misreads.proofs.CramfsDevices.{kept}
use Rattle.linux_misreads.proofs.laws.cramfs_device_numbers.Goals as goal

pub returns : goal.returns
returns c = λ s x i d. kept s x i d
