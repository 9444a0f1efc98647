use Rattle.std.proofs.Common.{sym, ◌∙◌, refl}
use Rattle.std.proofs.lemmas.Bool.{false≢true}
use Rattle.romfs_image.specs.Phases.{here_astray, above_astray, root_renamed}
use Rattle.romfs_image.proofs.names.is_astray.Goals as goal

pub returns-then-is_dot-clause-astray : goal.returns-then-is_dot-clause-astray
returns-then-is_dot-clause-astray c = λ before.
    here_astray refl (sym c.name_at-name.ensures ∙ c.is_dot.ensures.dot.0 c.if-is_dot.true)
    (λ e. false≢true (sym c.if-leads.false ∙ c.leads.ensures.1 (c.led_to.ensures.leads ∙ e)))

pub returns-then-row-b-clause-astray : goal.returns-then-row-b-clause-astray
returns-then-row-b-clause-astray c = λ before.
    root_renamed refl c.if-row-b.true (λ e. false≢true
    (sym c.if-is_dot.false ∙ c.is_dot.ensures.dot.1 (c.name_at-name.ensures ∙ e)))

pub returns-then-is_dot_dot-clause-astray : goal.returns-then-is_dot_dot-clause-astray
returns-then-is_dot_dot-clause-astray c = λ before.
    above_astray refl (sym c.name_at-name.ensures ∙ c.is_dot_dot.ensures.dot_dot.0 c.if-is_dot_dot.true)
    (λ e. false≢true (sym c.if-leads-2.false
    ∙ c.leads-then-is_dot_dot.ensures.1 (c.led_to-then-is_dot_dot.ensures.leads ∙ e)))

pub returns-then-leads-clause-here : goal.returns-then-leads-clause-here
returns-then-leads-clause-here c = λ e. sym c.led_to.ensures.leads ∙ c.leads.ensures.0 c.if-leads.true
