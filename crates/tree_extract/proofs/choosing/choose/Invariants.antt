use Rattle.std.proofs.Common.{◌≡◌, length}
use Rattle.tree_extract.specs.Choices.{kinds_below}
use Rattle.tree_extract.proofs.Firsts.{AreNoted}
use Rattle.tree_extract.proofs.choosing.choose.Given as goal

abbrev pub invariant-loop-index : goal.invariant-loop-index
invariant-loop-index l =
    (l.made.items ≡ kinds_below l.kinds l.chosen l.index) × (length l.firsts.items ≡ length l.kinds)
    × AreNoted l.kinds l.chosen l.index l.firsts.items
