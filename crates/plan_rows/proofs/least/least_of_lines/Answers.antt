use Rattle.std.proofs.Common.{subst, sym}
use Rattle.record_forest.specs.Faults.{IsLeastFaultOf}
use Rattle.manifest_layout.specs.Misfit.{HasLineMisfit}
use Rattle.manifest_layout.proofs.Decided.{least_line_is}
use Rattle.formats.specs.Format.{format_of}
use Rattle.plan_rows.proofs.least.least_of_lines.Goals as goal

pub returns-clause-least : goal.returns-clause-least
returns-clause-least c = λ sizes h.
    let known = rw (c.first_of_lines.ensures.first sizes h, c.of_volume.ensures) at c.lesser_of_both.ensures in
    subst (IsLeastFaultOf (HasLineMisfit (format_of c.args.format) c.args.m.now sizes)) (sym known)
    (least_line_is (format_of c.args.format) c.args.m.now sizes)
