use Rattle.std.proofs.lemmas.Grind.{common_steps}
use Rattle.std.proofs.Common.{arith}
use Rattle.image_stream.proofs.crc32.Crc32Checksum.add.Goals as goal

pub returns : goal.returns
returns c = grind (arith, common_steps)
