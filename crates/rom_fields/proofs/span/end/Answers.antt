use Rattle.std.proofs.Common.{arith}
use Rattle.rom_fields.proofs.span.end.Goals as goal

pub returns : goal.returns
returns c = omega arith
