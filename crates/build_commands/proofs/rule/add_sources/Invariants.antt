use Rattle.std.proofs.Common.{◌≡◌, ◌++◌, take, map, flat_map}
use Rattle.build_commands.specs.Rules.{prerequisite}
use Rattle.build_commands.proofs.rule.add_sources.Given as goal

abbrev pub invariant-loop-name : goal.invariant-loop-name
invariant-loop-name l =
    l.text.items ≡ l.initial.text.items ++ flat_map prerequisite (map (λ n. n.now) (take l.name-index l.names))
