use Rattle.std.proofs.Common.{◌≡◌, ◌++◌, drop}
use Rattle.build_commands.specs.Equal.{contents}
use Rattle.build_commands.proofs.equal.contents.Given as goal

abbrev pub invariant-loop-index : goal.invariant-loop-index
invariant-loop-index l =
    l.contents.items ++ contents (drop l.index l.shapes) (drop l.index l.digests) ≡ contents l.shapes l.digests
