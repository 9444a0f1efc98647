use Rattle.std.proofs.Common.{refl}
use Rattle.rom_c.proofs.answers.no_place.Goals as goal

pub returns : goal.returns
returns c = refl
