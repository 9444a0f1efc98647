use Rattle.std.proofs.Common.{Bool, inl, inr, refl, sym, subst, ◌∙◌, None}
use Rattle.rom_commands.specs.Answers.{ShowsFault}
use Rattle.rom_commands.specs.declared.ending.Ending.TheVariants as ending
use Rattle.rom_commands.proofs.shown.show_fault.Goals as goal

pub returns-in-Ok : goal.returns-in-Ok
returns-in-Ok g c =
    let P : Bool → Type 0 = λ b. ShowsFault b (ending.Fault c.args.fault None) (g.W.ByteWrite.output c.args.w.now)
    (g.W.ByteWrite.output c.write_line.new.w) (ending.Fault c.args.fault None) in
    subst P (sym c.if-takes_fault.true ∙ c.takes_fault.ensures)
    (inl (refl, c.in-Ok.ensures.text, c.in-Ok.ensures.count))

pub returns-in-Err : goal.returns-in-Err
returns-in-Err g c =
    let P : Bool → Type 0 = λ b. ShowsFault b (ending.Fault c.args.fault None) (g.W.ByteWrite.output c.args.w.now)
    (g.W.ByteWrite.output c.write_line.new.w) ending.WriteFault in
    subst P (sym c.if-takes_fault.true ∙ c.takes_fault.ensures)
    (inr (refl, c.in-Err.ensures.text, c.in-Err.ensures.count))
