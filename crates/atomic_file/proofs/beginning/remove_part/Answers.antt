use Rattle.atomic_file.specs.Log.{Remove, Did, Refused}
use Rattle.atomic_file.specs.Runs.{removed, stays}
use Rattle.atomic_file.proofs.beginning.remove_part.Goals as goal

pub returns-in-Ok : goal.returns-in-Ok
returns-in-Ok g c = (Did (Remove c.args.name), removed, c.in-Ok.ensures.logged)

pub returns-in-Err : goal.returns-in-Err
returns-in-Err g c = (Refused (Remove c.args.name), stays, c.in-Err.ensures.logged)
