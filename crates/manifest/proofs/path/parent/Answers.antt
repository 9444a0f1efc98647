use Rattle.manifest.proofs.Parents.{parent_is, slash_stands}
use Rattle.manifest.proofs.path.parent.Goals as goal

pub returns-in-None : goal.returns-in-None
returns-in-None c = absurd (slash_stands c.args.path.now c.requires c.in-None.ensures)

pub returns-in-Some : goal.returns-in-Some
returns-in-Some c = parent_is c.args.path.now c.in-Some.last c.requires c.in-Some.ensures.0 c.in-Some.ensures.1
