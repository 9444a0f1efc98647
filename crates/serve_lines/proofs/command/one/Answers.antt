use Rattle.serve_lines.proofs.Cutting.{many_fields}
use Rattle.serve_lines.proofs.command.one.Goals as goal

pub returns-in_default-Some-clause-field : goal.returns-in_default-Some-clause-field
returns-in_default-Some-clause-field c = λ line.
    many_fields c.args.rest c.cut.result.1 c.in-Some.text c.in_default-Some.field-0-1 c.cut.result.0.now c.in-Some.is
    c.cut.ensures.fields c.in_default-Some.is-1 line
