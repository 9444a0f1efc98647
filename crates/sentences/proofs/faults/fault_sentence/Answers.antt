use Rattle.std.proofs.lemmas.Grind.{common_steps}
use Rattle.std.proofs.Common.{arith}
use Rattle.sentences.proofs.faults.fault_sentence.Goals as goal

pub returns-in-5 : goal.returns-in-5
returns-in-5 c = grind (arith, common_steps)
