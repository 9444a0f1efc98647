use Rattle.std.proofs.lemmas.Grind.{common_steps}
use Rattle.std.proofs.Common.{arith}
use Rattle.image_info.proofs.by_format.put_fields.Goals as goal

pub returns-in-Romfs : goal.returns-in-Romfs
returns-in-Romfs c = grind (arith, common_steps)
