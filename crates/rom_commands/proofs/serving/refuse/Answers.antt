use Rattle.std.proofs.Common.{true, sym, subst, ◌∙◌}
use Rattle.rom_fields.specs.Written.{Output}
use Rattle.rom_commands.specs.Answers.{Ends}
use Rattle.rom_commands.specs.declared.ending.Ending.{Ending}
use Rattle.rom_commands.proofs.Known.{fault_ends, shown_by}
use Rattle.rom_commands.proofs.serving.refuse.Goals as goal

pub returns-then-takes_fault-clause-ends : goal.returns-then-takes_fault-clause-ends
returns-then-takes_fault-clause-ends g c = λ bytes h.
    let w₀ : Output = g.W.ByteWrite.output c.args.w.now in
    let w : Output = g.W.ByteWrite.output c.write_fault-ending.new.w in
    let P : Ending → Type 0 = λ o. Ends bytes c.args.asked w₀ w o in
    subst P (sym c.conclude.ensures.same)
    (fault_ends bytes c.args.fault c.args.asked true w₀ w c.write_fault-ending.result
    (sym c.takes_fault.ensures ∙ c.if-takes_fault.true) h (shown_by _ w₀ w c.write_fault-ending.result
    c.write_fault-ending.ensures))
