use Rattle.std.proofs.lemmas.Grind.{common_steps}
use Rattle.std.proofs.Common.{arith}
use Rattle.build_commands.proofs.scanning.put_found.Goals as goal

pub returns-then-found : goal.returns-then-found
returns-then-found c = grind (arith, common_steps)

pub returns-else-found : goal.returns-else-found
returns-else-found c = grind (arith, common_steps)
