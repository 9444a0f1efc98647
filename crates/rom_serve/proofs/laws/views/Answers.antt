use Rattle.open_files.specs.Sessions.{graft_parts}
use Rattle.rom_serve.proofs.Separate.{views}
use Rattle.rom_serve.proofs.laws.views.Goals as goal

pub returns : goal.returns
returns c = λ ms s. views (graft_parts 64 ms) s
