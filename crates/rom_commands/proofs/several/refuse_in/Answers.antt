use Rattle.std.proofs.Common.{sym, subst}
use Rattle.rom_fields.specs.Written.{Output}
use Rattle.rom_commands.specs.Serving.{ImagesEnd}
use Rattle.rom_commands.specs.declared.ending.Ending.{Ending}
use Rattle.rom_commands.proofs.Endings.{images_fault}
use Rattle.rom_commands.proofs.several.refuse_in.Goals as goal

pub returns-clause-ends : goal.returns-clause-ends
returns-clause-ends g c = λ all r h.
    let w₀ : Output = g.W.ByteWrite.output c.args.w.now in
    let w : Output = g.W.ByteWrite.output c.write_fault-ending.new.w in
    let P : Ending → Type 0 = λ o. ImagesEnd all r r w₀ w o in
    subst P (sym c.conclude.ensures.same)
    (images_fault all c.args.fault c.args.image r w₀ w c.write_fault-ending.result h c.write_fault-ending.ensures)
