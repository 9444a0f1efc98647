use Rattle.std.proofs.Common.{refl}
use Rattle.rom_c.proofs.file.no_entry.Goals as goal

pub returns-clause-numbers : goal.returns-clause-numbers
returns-clause-numbers c = (refl, refl, refl)
