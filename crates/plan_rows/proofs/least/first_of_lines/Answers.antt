use Rattle.std.proofs.Common.{sym, ◌∙◌}
use Rattle.formats.specs.Format.{format_of}
use Rattle.plan_rows.proofs.Firsts.{misfit_at}
use Rattle.plan_rows.proofs.Paths.{path_at}
use Rattle.plan_rows.proofs.least.first_of_lines.Goals as goal

pub number_of_line-requires : goal.number_of_line-requires
number_of_line-requires c =
    let below = c.loop-line-test.true in
    let is = c.line-item.is in
    path_at c.args.m.now c.loop-line.line-index _ c.line-item.result c.lines-all.ensures.of_text
    (rw c.loop-line.invariant.all at below) (rw c.loop-line.invariant.all at is)

pub returns-in-Some-clause-first : goal.returns-in-Some-clause-first
returns-in-Some-clause-first c = λ sizes h.
    let below = c.loop-line-test.true in
    let is = c.line-item.is in
    misfit_at (format_of c.args.format) c.args.m.now sizes c.loop-line.line-index _ c.line-item.result c.in-Some.number
    c.lines-all.ensures.of_text (rw c.loop-line.invariant.all at below) (rw c.loop-line.invariant.all at is)
    (sym c.in-Some.is ∙ c.number_of_line.ensures c.args.m.now sizes h)
    ∙ sym (c.loop-line.invariant.rest sizes h)
