use Rattle.std.proofs.Common.{◌≡◌, drop}
use Rattle.image_extents.specs.Lines.{have_owner}
use Rattle.image_extents.proofs.lines.have_owner.Given as goal

abbrev pub invariant-loop-x : goal.invariant-loop-x
invariant-loop-x l = have_owner l.owner (drop l.x-index l.run) ≡ have_owner l.owner l.run
