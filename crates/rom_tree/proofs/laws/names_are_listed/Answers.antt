use Rattle.std.proofs.Common.{sym}
use Rattle.rom_tree.proofs.Listed.{tree_listed}
use Rattle.rom_tree.proofs.laws.names_are_listed.Goals as goal

pub returns : goal.returns
returns c = λ b t. sym (tree_listed b t)
