use Rattle.std.proofs.Common.{refl}
use Rattle.rom_c.proofs.file.moved.Goals as goal

pub returns-clause-position : goal.returns-clause-position
returns-clause-position c = refl
