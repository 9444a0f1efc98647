use Rattle.std.proofs.Common.{sym, ap, arith, ◌∙◌, refl}
use Rattle.rom_tree.specs.Dots.{is_dots}
use Rattle.romfs_image.specs.Phases.{link_astray}
use Rattle.romfs_image.proofs.Naming.{no_target, directory_target}
use Rattle.romfs_image.proofs.names.is_link_astray.Goals as goal

pub returns-then-type_at-eq1-clause-astray : goal.returns-then-type_at-eq1-clause-astray
returns-then-type_at-eq1-clause-astray c = λ before.
    link_astray refl (ap is_dots (sym c.name_at.ensures) ∙ sym c.is_dots.ensures ∙ c.if-is_dots.false)
    (sym c.type_at.ensures ∙ c.if-type_at-ne0.false)
    (directory_target c.args.b.now.bytes.now _ c.in-Some.at (sym c.in-Some.ensures.leads)
    (sym c.type_at-in-Some.ensures ∙ c.if-type_at-eq1.true))

pub returns-in-None-clause-astray : goal.returns-in-None-clause-astray
returns-in-None-clause-astray c = λ before.
    link_astray refl (ap is_dots (sym c.name_at.ensures) ∙ sym c.is_dots.ensures ∙ c.if-is_dots.false)
    (sym c.type_at.ensures ∙ c.if-type_at-ne0.false)
    (no_target c.args.b.now.bytes.now _ (sym c.in-None.ensures.leads))

pub returns-else-type_at-eq1-clause-leads : goal.returns-else-type_at-eq1-clause-leads
returns-else-type_at-eq1-clause-leads c = λ _ _. (c.in-Some.at, sym c.in-Some.ensures.leads, λ e. omega arith)
