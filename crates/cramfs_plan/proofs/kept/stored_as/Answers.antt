use Rattle.std.proofs.lemmas.Grind.{common_steps}
use Rattle.std.proofs.Common.{arith}
use Rattle.cramfs_plan.proofs.kept.stored_as.Goals as goal

pub returns-in-Shared-clause-stored : goal.returns-in-Shared-clause-stored
returns-in-Shared-clause-stored c = grind (arith, common_steps)
