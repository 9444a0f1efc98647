use Rattle.std.proofs.Common.{arith}
use Rattle.std.proofs.lemmas.Grind.{common_steps}
use Rattle.romfs_image.proofs.fields.file_at.Goals as goal

pub returns-then-t-eq3 : goal.returns-then-t-eq3
returns-then-t-eq3 c = grind (arith, common_steps)

pub returns-else-t-eq3 : goal.returns-else-t-eq3
returns-else-t-eq3 c = grind (arith, common_steps)
