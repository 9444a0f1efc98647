use Rattle.open_files.specs.Sessions.{graft_parts}
use Rattle.rom_serve.proofs.Separate.{leaves_own}
use Rattle.rom_serve.proofs.laws.mounts_leave_tables.Goals as goal

pub returns : goal.returns
returns c = λ ms. leaves_own (graft_parts 64 ms)
