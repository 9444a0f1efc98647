use Rattle.std.proofs.lemmas.Grind.{common_steps}
use Rattle.std.proofs.Common.{arith}
use Rattle.romfs_plan.proofs.size.count_of.Goals as goal

pub returns-in-Directory-clause-count : goal.returns-in-Directory-clause-count
returns-in-Directory-clause-count c = grind (arith, common_steps)
