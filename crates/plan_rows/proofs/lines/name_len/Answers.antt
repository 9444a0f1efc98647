use Rattle.manifest.proofs.Parents.{slash_stands}
use Rattle.plan_rows.proofs.Names.{len_is}
use Rattle.plan_rows.proofs.lines.name_len.Goals as goal

pub returns-in-None : goal.returns-in-None
returns-in-None c = absurd (slash_stands c.args.path.now c.requires c.in-None.ensures)

pub returns-in-Some : goal.returns-in-Some
returns-in-Some c = len_is c.args.path.now c.in-Some.last c.requires c.in-Some.ensures.0 c.in-Some.ensures.1
