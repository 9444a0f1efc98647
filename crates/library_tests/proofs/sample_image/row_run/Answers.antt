use Rattle.std.proofs.Common.{arith}
use Rattle.library_tests.proofs.Answering.{run_is, run_none}
use Rattle.library_tests.proofs.sample_image.row_run.Goals as goal

pub returns-then-off-from-clause-row : goal.returns-then-off-from-clause-row
returns-then-off-from-clause-row c =
    run_is c.args.place c.args.len c.args.off (let h = c.if-off-from.true in let q = c.from.ensures in omega arith)

pub returns-else-off-from-clause-row : goal.returns-else-off-from-clause-row
returns-else-off-from-clause-row c =
    run_none c.args.place c.args.len c.args.off (let h = c.if-off-from.false in let q = c.from.ensures in omega arith)
