use Rattle.std.proofs.Common.{ℕ, Err, refl}
use Rattle.rom_fields.specs.declared.check_error.CheckError.TheVariants.{Fault}
use Rattle.rom_commands.specs.Asked.{takes_fault}
use Rattle.rom_commands.specs.Answers.{IsAnswer, usual_limits}
use Rattle.rom_commands.proofs.Known.{fault_ends}
use Rattle.rom_commands.proofs.Texts.{fault_of}
use Rattle.rom_commands.proofs.shown.show_error.Goals as goal

pub returns-in-Fault : goal.returns-in-Fault
returns-in-Fault g c bytes a =
    let n : ℕ = c.in-Fault.number in
    let at : ℕ = c.in-Fault.at in
    let h : IsAnswer bytes (Err (Fault n at)) = rw c.in-Fault.is at a in
    fault_ends bytes (record { number = n; at = at }) c.args.asked (takes_fault c.args.asked)
    (g.W.ByteWrite.output c.args.w.now) (g.W.ByteWrite.output c.show_fault.new.w) c.show_fault.result refl
    (fault_of bytes usual_limits n at refl h.0 h.1) c.show_fault.ensures
