use Rattle.std.proofs.Common.{◌≡◌, length}
use Rattle.cramfs_format.specs.Tree.{precedes}
use Rattle.cramfs_image.proofs.names.comes_before.Given as goal

abbrev pub invariant-loop-xs : goal.invariant-loop-xs
invariant-loop-xs l = precedes l.xs l.ys ≡ precedes l.fn.one l.fn.other

abbrev pub decreases-loop-xs : goal.decreases-loop-xs
decreases-loop-xs l = length l.ys
