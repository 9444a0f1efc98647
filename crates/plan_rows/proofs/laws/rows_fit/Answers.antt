use Rattle.plan_rows.proofs.Fitting as fitting
use Rattle.plan_rows.proofs.laws.rows_fit.Goals as goal

pub returns : goal.returns
returns c = λ f m sizes h none. fitting.rows_fit f m sizes h none
