use Rattle.std.proofs.Common.{◌≤◌, length}
use Rattle.image_manifest.proofs.Wanted.{IsLeft}
use Rattle.image_manifest.proofs.choosing.with_directories.Given as goal

abbrev pub invariant-loop-left : goal.invariant-loop-left
invariant-loop-left l =
    (l.left ≤ length l.members) × IsLeft l.members l.fn.wanted.items l.left l.chosen.items

abbrev pub decreases-loop-left : goal.decreases-loop-left
decreases-loop-left l = l.left
