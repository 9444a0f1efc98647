use Rattle.std.proofs.lemmas.Grind.{common_steps}
use Rattle.std.proofs.Common.{arith}
use Rattle.library_tests.proofs.sample_image.SampleTreeImage.bytes.Goals as goal

pub returns : goal.returns
returns c = grind (arith, common_steps)
