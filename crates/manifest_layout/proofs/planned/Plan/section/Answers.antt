use Rattle.std.proofs.Common.{ap, ◌∙◌, arith, Some}
use Rattle.manifest_layout.specs.Views.{section_view}
use Rattle.manifest_layout.specs.Plans.{Planned, section_at}
use Rattle.manifest_layout.proofs.Places.{section_some, section_none}
use Rattle.manifest_layout.proofs.planned.Plan.section.Goals as goal

pub returns-then-i-len : goal.returns-then-i-len
returns-then-i-len c =
    ap (λ s. Some (section_view s)) c.index.ensures
    ∙ section_some c.self.inside.sections.items c.args.i _
    (let n = c.len.ensures in let l = c.if-i-len.true in omega (arith, n, l))
    ∙ ap (λ (p : Planned). section_at p.sections c.args.i) c.self.view_is

pub returns-else-i-len : goal.returns-else-i-len
returns-else-i-len c =
    section_none c.self.inside.sections.items c.args.i
    (let n = c.len.ensures in let l = c.if-i-len.false in omega (arith, n, l))
    ∙ ap (λ (p : Planned). section_at p.sections c.args.i) c.self.view_is
