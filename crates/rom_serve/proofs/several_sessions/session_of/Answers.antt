use Rattle.std.proofs.lemmas.Grind.{common_steps}
use Rattle.std.proofs.Common.{arith}
use Rattle.rom_serve.proofs.several_sessions.session_of.Goals as goal

pub returns-clause-names : goal.returns-clause-names
returns-clause-names c = grind (arith, common_steps)

pub returns-clause-digit : goal.returns-clause-digit
returns-clause-digit c = grind (arith, common_steps)
