use Rattle.std.proofs.lemmas.Grind.{common_steps}
use Rattle.std.proofs.Common.{arith}
use Rattle.plan_rows.proofs.lines.romfs_mode.Goals as goal

pub returns-in-Slink : goal.returns-in-Slink
returns-in-Slink c = grind (arith, common_steps)
