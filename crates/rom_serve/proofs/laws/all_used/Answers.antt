use Rattle.std.proofs.Common.{[], refl}
use Rattle.serve_lines.proofs.Agree.{used_all}
use Rattle.rom_serve.specs.Machines.{space_machine}
use Rattle.rom_serve.proofs.laws.all_used.Goals as goal

pub returns : goal.returns
returns c = λ ms x. used_all (space_machine ms) (λ l. refl) [] x
