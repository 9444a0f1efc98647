use Rattle.std.proofs.lemmas.Grind.{common_steps}
use Rattle.std.proofs.Common.{arith}
use Rattle.sentences.proofs.unfit.misfit_sentence.Goals as goal

pub returns-in-2 : goal.returns-in-2
returns-in-2 c = grind (arith, common_steps)
