use Rattle.program_report.proofs.Planned.{found_as}
use Rattle.program_report.proofs.laws.planned_is_found.Goals as goal

pub returns : goal.returns
returns c = found_as
