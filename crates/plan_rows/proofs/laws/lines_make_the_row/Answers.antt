use Rattle.plan_rows.proofs.EntryRows.{tree_row, row_rises}
use Rattle.plan_rows.proofs.laws.lines_make_the_row.Goals as goal

pub returns-clause-row : goal.returns-clause-row
returns-clause-row c = λ m sizes h. tree_row m sizes h

pub returns-clause-rises : goal.returns-clause-rises
returns-clause-rises c = λ m sizes h. row_rises m sizes h
