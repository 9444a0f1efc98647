use Rattle.std.proofs.Common.{refl, sym, ap, ap₂, ◌∙◌, map, List, rules}
use Rattle.clap.specs.Words.{app_of, with_rule}
use Rattle.command_line.specs.Commands.{with_rules}
use Rattle.command_line.specs.Table.{rule_named}
use Rattle.command_line.specs.declared.table.Word.{Word}
use Rattle.command_line.proofs.Loops.{next_rule, whole}
use Rattle.command_line.proofs.commands.with_arguments.Goals as goal

pub loop-word-init : goal.loop-word-init
loop-word-init c = refl

pub loop-word-preserved : goal.loop-word-preserved
loop-word-preserved c =
    c.in_ok-command.ensures.shape c.argument.ensures.local
    ∙ ap₂ with_rule c.loop-word.invariant c.argument.ensures.rule
    ∙ sym (next_rule (app_of c.args.command) c.args.words.now c.loop-word.word-index _ c.loop-word-test.true)

pub returns : goal.returns
returns c =
    c.loop-word.invariant ∙ ap (λ (ws : List Word). with_rules (app_of c.args.command) (map rule_named ws))
    (whole c.args.words.now c.loop-word.word-index c.loop-word-test.false)
