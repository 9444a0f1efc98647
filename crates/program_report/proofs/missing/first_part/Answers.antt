use Rattle.program_report.proofs.Places.{divided, whole}
use Rattle.program_report.proofs.missing.first_part.Goals as goal

pub returns-in-Some : goal.returns-in-Some
returns-in-Some c = divided c.args.path.now c.in-Some.end c.in-Some.ensures

pub returns-in-None : goal.returns-in-None
returns-in-None c = whole c.args.path.now c.in-None.ensures
