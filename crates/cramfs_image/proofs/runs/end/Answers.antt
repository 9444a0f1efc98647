use Rattle.std.proofs.Common.{arith}
use Rattle.cramfs_image.proofs.runs.end.Goals as goal

pub returns : goal.returns
returns c = omega arith
