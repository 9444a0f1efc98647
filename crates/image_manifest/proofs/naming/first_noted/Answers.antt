use Rattle.std.proofs.lemmas.Grind.{common_steps}
use Rattle.std.proofs.Common.{arith}
use Rattle.image_manifest.proofs.naming.first_noted.Goals as goal

pub returns : goal.returns
returns c = grind (arith, common_steps)
