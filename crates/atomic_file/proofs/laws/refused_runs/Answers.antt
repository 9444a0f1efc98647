use Rattle.atomic_file.proofs.Refusals.{undurable, left}
use Rattle.atomic_file.proofs.laws.refused_runs.Goals as goal

pub returns-clause-directory : goal.returns-clause-directory
returns-clause-directory c = undurable

pub returns-clause-part : goal.returns-clause-part
returns-clause-part c = left
