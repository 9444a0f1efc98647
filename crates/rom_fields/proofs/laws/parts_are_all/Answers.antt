use Rattle.rom_fields.proofs.Determined.{determined}
use Rattle.rom_fields.proofs.laws.parts_are_all.Goals as goal

pub returns : goal.returns
returns c = determined
