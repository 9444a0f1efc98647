use Rattle.plan_rows.proofs.Paths.{path_at}
use Rattle.plan_rows.proofs.least.misfits.Goals as goal

pub number_of_line-requires : goal.number_of_line-requires
number_of_line-requires c =
    let below = c.loop-line-test.true in
    let is = c.line-item.is in
    path_at c.args.m.now c.loop-line.line-index _ c.line-item.result c.lines-all.ensures.of_text
    (rw c.loop-line.invariant.all at below) (rw c.loop-line.invariant.all at is)
