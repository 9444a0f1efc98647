use Rattle.std.proofs.Common.{inl, inr, refl}
use Rattle.rom_commands.proofs.ending.write_fault.Goals as goal

pub returns-in-Ok : goal.returns-in-Ok
returns-in-Ok g c = inl (refl, c.in-Ok.ensures.text, c.in-Ok.ensures.count, c.in-Ok.ensures.flushed)

pub returns-in-Err : goal.returns-in-Err
returns-in-Err g c = inr (refl, c.in-Err.ensures.text, c.in-Err.ensures.count)
