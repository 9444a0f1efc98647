use Rattle.std.proofs.Common.{refl}
use Rattle.rom_commands.proofs.status.Status.code.Goals as goal

pub returns-in-Failed-clause-value : goal.returns-in-Failed-clause-value
returns-in-Failed-clause-value c = rw c.in-Failed.is refl
