use Rattle.std.proofs.Common.{◌≡◌, true, take}
use Rattle.std.specs.List.{list_all}
use Rattle.build_commands.specs.Names.{is_permitted}
use Rattle.build_commands.proofs.rule_name.are_permitted.Given as goal

abbrev pub invariant-loop-byte : goal.invariant-loop-byte
invariant-loop-byte l = list_all is_permitted (take l.byte-index l.name) ≡ true
