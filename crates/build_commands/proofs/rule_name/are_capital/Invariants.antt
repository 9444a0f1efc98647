use Rattle.std.proofs.Common.{◌≡◌, true, take}
use Rattle.std.specs.List.{list_all}
use Rattle.build_commands.specs.Names.{is_capital}
use Rattle.build_commands.proofs.rule_name.are_capital.Given as goal

abbrev pub invariant-loop-byte : goal.invariant-loop-byte
invariant-loop-byte l = list_all is_capital (take l.byte-index l.word) ≡ true
