use Rattle.std.proofs.Common.{◌≡◌, ◌++◌, drop}
use Rattle.build_commands.specs.Equal.{further_from}
use Rattle.build_commands.proofs.equal.further.Given as goal

abbrev pub invariant-loop-index : goal.invariant-loop-index
invariant-loop-index l =
    l.further.items ++ further_from l.index (drop l.index l.firsts) ≡ further_from 0 l.firsts
