use Rattle.std.proofs.lemmas.Grind.{common_steps}
use Rattle.std.proofs.Common.{arith}
use Rattle.image_info.proofs.tally.counted.Goals as goal

pub returns-in-Symlink-clause-links : goal.returns-in-Symlink-clause-links
returns-in-Symlink-clause-links c = grind (arith, common_steps)

pub returns-in-Symlink-clause-others : goal.returns-in-Symlink-clause-others
returns-in-Symlink-clause-others c = grind (arith, common_steps)
