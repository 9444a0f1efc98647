use Rattle.std.proofs.Common.{◌≡◌, refl}
use Rattle.rom_commands.specs.Answers.{usual_limits}
use Rattle.rom_commands.proofs.Texts.{usual, fault_of}
use Rattle.rom_commands.proofs.several.checked.Goals as goal

pub returns-in-Err-Fault-clause-fault : goal.returns-in-Err-Fault-clause-fault
returns-in-Err-Fault-clause-fault c =
    let e : c.usual.result ≡ usual_limits = usual c.usual.result c.usual.ensures.references c.usual.ensures.depth in (
      fault_of c.args.bytes.now c.usual.result c.in-Err-Fault.number c.in-Err-Fault.at e
          (rw c.in-Err-Fault.field-0-is at c.in-Err-Fault.ensures.fault)
          (rw c.in-Err-Fault.field-0-is at c.in-Err-Fault.ensures.least),
      refl,
    )
