use Rattle.std.proofs.Common.{arith, []}
use Rattle.rom_fields.proofs.Parts.{HasParts-laid, length-laid, zero_outside}
use Rattle.rom_fields.proofs.laws.parts_stand.Goals as goal

pub returns-clause-stand : goal.returns-clause-stand
returns-clause-stand c = λ ps h. HasParts-laid [] ps h

pub returns-clause-length : goal.returns-clause-length
returns-clause-length c = λ ps h. length-laid [] ps h

pub returns-clause-zeros : goal.returns-clause-zeros
returns-clause-zeros c = λ ps i h far. zero_outside [] ps i h far (omega arith)
