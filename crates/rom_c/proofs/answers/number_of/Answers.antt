use Rattle.std.proofs.Common.{refl}
use Rattle.rom_c.proofs.answers.number_of.Goals as goal

pub returns-in-Block : goal.returns-in-Block
returns-in-Block c = rw c.in-Block.is refl
