use Rattle.rom_fields.proofs.Laid.{laid_from}
use Rattle.rom_fields.proofs.laws.laid_from_the_left.Goals as goal

pub returns : goal.returns
returns c = laid_from
