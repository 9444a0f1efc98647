use Rattle.std.proofs.lemmas.Grind.{common_steps}
use Rattle.std.proofs.Common.{arith}
use Rattle.romfs_plan.proofs.places.row_end.Goals as goal

pub returns-in-Directory-clause-end : goal.returns-in-Directory-clause-end
returns-in-Directory-clause-end c = grind (arith, common_steps)
