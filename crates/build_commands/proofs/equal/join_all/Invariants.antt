use Rattle.std.proofs.Common.{None, get_or}
use Rattle.build_commands.specs.Grouping.{with_inode}
use Rattle.build_commands.proofs.Mapped.{Mapping}
use Rattle.build_commands.proofs.equal.join_all.Given as goal

abbrev pub invariant-loop-index : goal.invariant-loop-index
invariant-loop-index l = Mapping (λ j f. with_inode f (get_or l.inodes j None)) l.fn.found l.found l.index
