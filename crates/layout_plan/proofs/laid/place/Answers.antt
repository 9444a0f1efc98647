use Rattle.std.proofs.lemmas.Grind.{common_steps}
use Rattle.std.proofs.Common.{arith}
use Rattle.layout_plan.proofs.laid.place.Goals as goal

pub place_cramfs-requires : goal.place_cramfs-requires
place_cramfs-requires c = grind (arith, common_steps)

pub returns-in-Cramfs : goal.returns-in-Cramfs
returns-in-Cramfs c = grind (arith, common_steps)
