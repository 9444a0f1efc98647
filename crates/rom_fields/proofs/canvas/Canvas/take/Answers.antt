use Rattle.std.proofs.Common.{arith}
use Rattle.std.proofs.lemmas.Grind.{common_steps}
use Rattle.rom_fields.proofs.canvas.Canvas.take.Goals as goal

pub returns-then-start-self-clause-some : goal.returns-then-start-self-clause-some
returns-then-start-self-clause-some c = grind (arith, common_steps)

pub overflow_sub-gap : goal.overflow_sub-gap
overflow_sub-gap c = omega arith

pub cut-window-requires : goal.cut-window-requires
cut-window-requires c = grind (arith, common_steps)

pub invariant_of-self : goal.invariant_of-self
invariant_of-self c = grind (arith, common_steps)

pub returns-clause-some : goal.returns-clause-some
returns-clause-some c = grind (arith, common_steps)
