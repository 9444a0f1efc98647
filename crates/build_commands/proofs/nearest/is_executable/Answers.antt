use Rattle.std.proofs.lemmas.Grind.{common_steps}
use Rattle.std.proofs.Common.{arith}
use Rattle.build_commands.proofs.nearest.is_executable.Goals as goal

pub returns-then-mode-eq1-2 : goal.returns-then-mode-eq1-2
returns-then-mode-eq1-2 c = grind (arith, common_steps)

pub returns-else-mode-eq1-2 : goal.returns-else-mode-eq1-2
returns-else-mode-eq1-2 c = grind (arith, common_steps)
