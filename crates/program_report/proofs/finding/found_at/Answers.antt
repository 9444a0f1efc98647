use Rattle.program_report.proofs.Rows.{found_none, found_one}
use Rattle.program_report.proofs.finding.found_at.Goals as goal

pub returns-then-not-is_found-clause-is : goal.returns-then-not-is_found-clause-is
returns-then-not-is_found-clause-is c =
    found_none c.args.image.now c.args.question.now c.args.start c.args.len c.args.size c.is_found.result
    c.bytes_in-front.result.now c.bytes.result.now c.is_found.ensures c.bytes_in-front.ensures c.bytes.ensures
    c.if-not-is_found.true

pub returns-clause-is : goal.returns-clause-is
returns-clause-is c =
    found_one c.args.image.now c.args.question.now c.args.start c.args.len c.args.size c.is_found.result
    c.bytes_in-front.result.now c.bytes.result.now c.verdict_in.result c.is_found.ensures c.bytes_in-front.ensures
    c.bytes.ensures c.if-not-is_found.false c.verdict_in.ensures
