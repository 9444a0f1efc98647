use Rattle.open_files.specs.Sessions.{graft_parts}
use Rattle.rom_serve.proofs.Separate.{unnamed_stays}
use Rattle.rom_serve.proofs.laws.unnamed_lines.Goals as goal

pub returns : goal.returns
returns c = λ ms s l h. unnamed_stays (graft_parts 64 ms) s l h
