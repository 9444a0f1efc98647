use Rattle.std.proofs.Common.{refl}
use Rattle.rom_fields.proofs.faulty.FaultyByteWrite.flush.Goals as goal

pub returns-in-Ok-clause-calls : goal.returns-in-Ok-clause-calls
returns-in-Ok-clause-calls g c = refl

pub returns-in-Err-clause-calls : goal.returns-in-Err-clause-calls
returns-in-Err-clause-calls g c = c.fail-in-Err.ensures.calls
