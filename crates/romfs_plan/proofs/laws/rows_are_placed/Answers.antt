use Rattle.std.proofs.Common.{refl}
use Rattle.plan_rows.specs.Rows.{rows}
use Rattle.romfs_plan.specs.Passes.{places}
use Rattle.romfs_plan.proofs.Passing.{places_are, rows_end_is}
use Rattle.romfs_plan.proofs.laws.rows_are_placed.Goals as goal

pub returns-clause-places : goal.returns-clause-places
returns-clause-places c = λ from n h. places_are from (rows 1 n) (places from (rows 1 n)) n refl refl h

pub returns-clause-end : goal.returns-clause-end
returns-clause-end c = λ from n. rows_end_is 1 from n
