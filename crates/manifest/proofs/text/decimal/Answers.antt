use Rattle.std.proofs.Common.{◌≡◌, arith}
use Rattle.std.proofs.lemmas.Grind.{common_steps}
use Rattle.manifest.specs.Texts.{decimal}
use Rattle.std.proofs.Common.{None}
use Rattle.manifest.proofs.text.decimal.Goals as goal

pub returns-in-48 : goal.returns-in-48
unfolding decimal
returns-in-48 c = let none : None ≡ decimal c.args.text.now = grind (arith, common_steps) in none
