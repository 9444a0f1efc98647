use Rattle.std.proofs.lemmas.Grind.{common_steps}
use Rattle.std.proofs.Common.{arith}
use Rattle.image_stream.proofs.word_sum.weight_at.Goals as goal

pub returns-then-place-eq1 : goal.returns-then-place-eq1
returns-then-place-eq1 c = grind (arith, common_steps)
