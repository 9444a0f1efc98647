use Rattle.std.proofs.lemmas.Grind.{common_steps}
use Rattle.std.proofs.Common.{arith}
use Rattle.romfs_write.proofs.form.RomfsFormSegmented.segment.Goals as goal

pub returns-in-Content : goal.returns-in-Content
returns-in-Content c = grind (arith, common_steps)
