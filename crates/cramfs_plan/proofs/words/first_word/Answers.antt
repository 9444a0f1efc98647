use Rattle.std.proofs.lemmas.Grind.{common_steps}
use Rattle.std.proofs.Common.{arith}
use Rattle.cramfs_plan.proofs.words.first_word.Goals as goal

pub returns : goal.returns
returns c = grind (arith, common_steps)
