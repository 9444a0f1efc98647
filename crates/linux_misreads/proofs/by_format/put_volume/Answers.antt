use Rattle.std.proofs.lemmas.Grind.{common_steps}
use Rattle.std.proofs.Common.{arith}
use Rattle.linux_misreads.proofs.by_format.put_volume.Goals as goal

pub returns-then-is_root_missed-clause-puts : goal.returns-then-is_root_missed-clause-puts
returns-then-is_root_missed-clause-puts c = grind (arith, common_steps)

pub returns-then-is_root_missed-clause-printed : goal.returns-then-is_root_missed-clause-printed
returns-then-is_root_missed-clause-printed c = grind (arith, common_steps)

pub returns-else-is_root_missed-clause-puts : goal.returns-else-is_root_missed-clause-puts
returns-else-is_root_missed-clause-puts c = grind (arith, common_steps)

pub returns-else-is_root_missed-clause-printed : goal.returns-else-is_root_missed-clause-printed
returns-else-is_root_missed-clause-printed c = grind (arith, common_steps)
