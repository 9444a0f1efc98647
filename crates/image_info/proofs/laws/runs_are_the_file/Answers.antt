use Rattle.std.proofs.Common.{length, arith, sym, ap, ◌∙◌}
use Rattle.image_info.specs.Runs.{runs_from}
use Rattle.image_info.proofs.Pieces.{runs_joined, runs_go, runs_apart, only_runs}
use Rattle.image_info.proofs.laws.runs_are_the_file.Goals as goal

pub returns-clause-joined : goal.returns-clause-joined
returns-clause-joined c = λ ps. runs_joined 0 ps

pub returns-clause-offsets : goal.returns-clause-offsets
returns-clause-offsets c = λ ps. runs_go 0 (length ps) ps (omega arith)

pub returns-clause-apart : goal.returns-clause-apart
returns-clause-apart c = λ ps. runs_apart 0 ps

pub returns-clause-only : goal.returns-clause-only
returns-clause-only c = λ ps rs j g a. sym (only_runs 0 (length ps) rs g a) ∙ ap (runs_from 0) j
