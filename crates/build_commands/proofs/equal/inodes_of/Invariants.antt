use Rattle.std.proofs.Common.{◌≡◌, map, take}
use Rattle.build_commands.specs.Equal.{at_index}
use Rattle.build_commands.specs.Grouping.{inode_of}
use Rattle.build_commands.proofs.equal.inodes_of.Given as goal

abbrev pub invariant-loop-first : goal.invariant-loop-first
invariant-loop-first l =
    l.inodes.items ≡ map (λ first. inode_of (at_index l.found first)) (take l.first-index l.firsts)
