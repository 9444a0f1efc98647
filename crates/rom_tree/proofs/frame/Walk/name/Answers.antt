use Rattle.std.proofs.Common.{◌≡◌, rules}
use Rattle.rom_tree.specs.Walks.{given_name}
use Rattle.rom_tree.proofs.frame.Walk.name.Goals as goal

pub returns-in-Some : goal.returns-in-Some
returns-in-Some c = let given : c.in-Some.name.now ≡ given_name c.args.self.now = search rules in given
