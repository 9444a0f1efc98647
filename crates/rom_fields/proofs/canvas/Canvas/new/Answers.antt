use Rattle.std.proofs.Common.{refl}
use Rattle.rom_fields.proofs.canvas.Canvas.new.Goals as goal

pub returns-clause-bytes : goal.returns-clause-bytes
returns-clause-bytes c = refl
