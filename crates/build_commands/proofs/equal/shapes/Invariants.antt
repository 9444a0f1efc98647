use Rattle.std.proofs.Common.{◌≡◌, ◌++◌, drop}
use Rattle.build_commands.specs.Equal.{shapes}
use Rattle.build_commands.proofs.equal.shapes.Given as goal

abbrev pub invariant-loop-index : goal.invariant-loop-index
invariant-loop-index l =
    l.shapes.items ++ shapes (drop l.index l.found) (drop l.index l.lens) ≡ shapes l.found l.lens
