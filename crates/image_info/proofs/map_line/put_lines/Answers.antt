use Rattle.std.proofs.lemmas.Grind.{common_steps}
use Rattle.std.proofs.Common.{arith}
use Rattle.image_info.proofs.map_line.put_lines.Goals as goal

pub returns-then-stat-eq0 : goal.returns-then-stat-eq0
returns-then-stat-eq0 c = grind (arith, common_steps)

pub returns-else-stat-eq0 : goal.returns-else-stat-eq0
returns-else-stat-eq0 c = grind (arith, common_steps)

pub returns-else-is_regular_at : goal.returns-else-is_regular_at
returns-else-is_regular_at c = grind (arith, common_steps)
