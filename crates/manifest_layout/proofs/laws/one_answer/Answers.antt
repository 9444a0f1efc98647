use Rattle.manifest_layout.proofs.Least.{excluded, alone}
use Rattle.manifest_layout.proofs.Decided.{least_misfit, answered}
use Rattle.manifest_layout.proofs.laws.one_answer.Goals as goal

pub returns-clause-given : goal.returns-clause-given
returns-clause-given c = λ f m sizes. (least_misfit f m sizes, answered f m sizes)

pub returns-clause-excluded : goal.returns-clause-excluded
returns-clause-excluded c = excluded

pub returns-clause-alone : goal.returns-clause-alone
returns-clause-alone c = alone
