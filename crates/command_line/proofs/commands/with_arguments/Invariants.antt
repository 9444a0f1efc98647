use Rattle.std.proofs.Common.{◌≡◌, map, take}
use Rattle.clap.specs.Words.{app_of}
use Rattle.command_line.specs.Commands.{with_rules}
use Rattle.command_line.specs.Table.{rule_named}
use Rattle.command_line.proofs.commands.with_arguments.Given as goal

abbrev pub invariant-loop-word : goal.invariant-loop-word
invariant-loop-word l = app_of l.command ≡ with_rules (app_of l.fn.command) (map rule_named (take l.word-index l.words))
