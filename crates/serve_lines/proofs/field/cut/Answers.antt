use Rattle.serve_lines.proofs.Cutting.{cut_none, cut_some}
use Rattle.serve_lines.proofs.field.cut.Goals as goal

pub returns-in-None-clause-fields : goal.returns-in-None-clause-fields
returns-in-None-clause-fields c = cut_none c.args.text.now c.in-None.ensures

pub returns-in-Some-clause-fields : goal.returns-in-Some-clause-fields
returns-in-Some-clause-fields c = cut_some c.in-Some.i c.args.text.now c.in-Some.ensures.0 c.in-Some.ensures.1
