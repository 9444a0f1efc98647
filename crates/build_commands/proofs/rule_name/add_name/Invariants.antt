use Rattle.std.proofs.Common.{◌≡◌, ◌≤◌, ◌++◌, drop}
use Rattle.build_commands.specs.Names.{spelled, spelled_after}
use Rattle.build_commands.proofs.rule_name.add_name.Given as goal

abbrev pub invariant-loop-byte : goal.invariant-loop-byte
invariant-loop-byte l =
    (l.text.items ++ spelled_after l.is_target l.count (drop l.byte-index l.name)
    ≡ l.initial.text.items ++ spelled l.is_target l.name) × (l.count ≤ l.byte-index)
