use Rattle.std.proofs.Common.{rules, refl, sym, ap, ◌∙◌, map}
use Rattle.clap.specs.Words.{App, Rule, Shape, new_app}
use Rattle.command_line.specs.Commands.{explain_rule, shape_with, with_rules}
use Rattle.command_line.specs.Table.{rule_named}
use Rattle.command_line.proofs.Loops.{with_rules_are}
use Rattle.command_line.proofs.Rows.{with_last_arg}
use Rattle.command_line.proofs.commands.subcommand.Goals as goal

pub returns : goal.returns
returns c =
    let rs = map rule_named c.args.row.now.words.now in
    let shape =
    ap (λ (a : App). a.top)
    (c.in_ok-command.ensures ∙ ap (λ (a : App). with_rules a rs) (search rules)
    ∙ with_rules_are (new_app c.args.row.now.name.now) rs) in
    with_last_arg _ c.argument.result _ (shape_with c.args.row.now.name.now rs) explain_rule c.arg.ensures
    shape c.argument.ensures.rule c.argument.ensures.local
