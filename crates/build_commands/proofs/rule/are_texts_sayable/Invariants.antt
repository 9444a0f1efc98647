use Rattle.std.proofs.Common.{◌≡◌, true, take, map, string_bytes}
use Rattle.std.specs.List.{list_all}
use Rattle.build_commands.specs.Names.{is_sayable}
use Rattle.build_commands.proofs.rule.are_texts_sayable.Given as goal

abbrev pub invariant-loop-name : goal.invariant-loop-name
invariant-loop-name l = list_all is_sayable (map string_bytes (take l.name-index l.names)) ≡ true
