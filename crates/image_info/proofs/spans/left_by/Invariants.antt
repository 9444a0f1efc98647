use Rattle.image_info.proofs.Left.{Left}
use Rattle.image_info.proofs.spans.left_by.Given as goal

abbrev pub invariant-spans : goal.invariant-spans
invariant-spans l = Left l.spans l.x-index l.left l.reach l.size
