use Rattle.std.proofs.Common.{refl}
use Rattle.rom_tree.proofs.types.Limits.usual.Goals as goal

pub returns-clause-depth : goal.returns-clause-depth
returns-clause-depth c = refl

pub returns-clause-references : goal.returns-clause-references
returns-clause-references c = refl
