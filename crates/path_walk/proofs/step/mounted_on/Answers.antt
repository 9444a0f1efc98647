use Rattle.std.proofs.Common.{arith}
use Rattle.std.proofs.lemmas.Grind.{common_steps}
use Rattle.path_walk.proofs.step.mounted_on.Goals as goal

pub returns-then-mount-dir : goal.returns-then-mount-dir
returns-then-mount-dir c = grind (arith, common_steps)
