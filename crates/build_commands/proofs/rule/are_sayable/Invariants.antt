use Rattle.std.proofs.Common.{◌≡◌, true, take, map}
use Rattle.std.specs.List.{list_all}
use Rattle.build_commands.specs.Names.{is_sayable}
use Rattle.build_commands.proofs.rule.are_sayable.Given as goal

abbrev pub invariant-loop-name : goal.invariant-loop-name
invariant-loop-name l = list_all is_sayable (map (λ n. n.now) (take l.name-index l.names)) ≡ true
