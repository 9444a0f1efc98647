use Rattle.std.proofs.Common.{length}
use Rattle.library_tests.proofs.mounted.+is_alone.Given as goal

abbrev pub decreases-is_alone : goal.decreases-is_alone
decreases-is_alone l = length l.others.now
