use Rattle.std.proofs.Common.{◌≡◌, ◌++◌, replicate}
use Rattle.build_commands.proofs.rule_name.add_backslashes.Given as goal

abbrev pub invariant-loop : goal.invariant-loop
invariant-loop l = l.text.items ≡ l.initial.text.items ++ replicate l.counter 92
