use Rattle.std.proofs.Common.{refl}
use Rattle.rom_c.proofs.file.node_of.Goals as goal

pub returns-clause-node : goal.returns-clause-node
returns-clause-node c = refl
