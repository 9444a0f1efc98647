use Rattle.std.proofs.lemmas.Grind.{common_steps}
use Rattle.std.proofs.Common.{arith}
use Rattle.cramfs_plan.proofs.words.size_by.Goals as goal

pub returns-in-Block-clause-size : goal.returns-in-Block-clause-size
returns-in-Block-clause-size c = grind (arith, common_steps)
