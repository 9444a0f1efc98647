use Rattle.cramfs_image.proofs.Looking.{Looked}
use Rattle.cramfs_image.proofs.runs.first_conflict.Given as goal

abbrev pub invariant-spans : goal.invariant-spans
invariant-spans l = Looked l.spans l.x-index l.furthest
