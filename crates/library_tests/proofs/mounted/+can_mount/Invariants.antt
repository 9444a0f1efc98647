use Rattle.std.proofs.Common.{length}
use Rattle.library_tests.proofs.mounted.+can_mount.Given as goal

abbrev pub decreases-can_mount : goal.decreases-can_mount
decreases-can_mount l = length l.mounts.now
