use Rattle.std.proofs.Common.{rules, refl, sym, ◌∙◌, ap, Some}
use Rattle.command_line.specs.Numbers.{another_rule}
use Rattle.command_line.proofs.building.note_align.Goals as goal

pub returns-in-Ok : goal.returns-in-Ok
returns-in-Ok c = another_rule c.in-Some-align_rule_named.rule c.in-Some-align_rule_named.ensures refl (search rules)
