use Rattle.std.proofs.lemmas.Grind.{common_steps}
use Rattle.std.proofs.Common.{arith}
use Rattle.sentences.proofs.replies.call_sentence.Goals as goal

pub returns-then-eq-6 : goal.returns-then-eq-6
returns-then-eq-6 c = grind (arith, common_steps)
