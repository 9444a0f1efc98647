use Rattle.std.proofs.Common.{refl}
use Rattle.rom_commands.proofs.shown.write_sound.Goals as goal

pub list-requires : goal.list-requires
list-requires g c κs = ((refl, tt), c.requires.shallow)

pub returns-in-Ok-map-clause-text : goal.returns-in-Ok-map-clause-text
returns-in-Ok-map-clause-text g c = rw c.in-Map.is (c.in-Ok-map.ensures.ok, c.in-Ok-map.ensures.count)

pub returns-in-Err-map-clause-text : goal.returns-in-Err-map-clause-text
returns-in-Err-map-clause-text g c = rw c.in-Map.is (c.in-Err-map.ensures.err, c.in-Err-map.ensures.count)

pub returns-in-Ok-write_programs-clause-text : goal.returns-in-Ok-write_programs-clause-text
returns-in-Ok-write_programs-clause-text g c =
    rw c.in-Programs.is (c.in-Ok-write_programs.ensures.text, c.in-Ok-write_programs.ensures.count)

pub returns-in-Err-write_programs-clause-text : goal.returns-in-Err-write_programs-clause-text
returns-in-Err-write_programs-clause-text g c =
    rw c.in-Programs.is (c.in-Err-write_programs.ensures.text, c.in-Err-write_programs.ensures.count)
