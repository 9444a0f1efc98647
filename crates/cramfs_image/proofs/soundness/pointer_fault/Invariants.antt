use Rattle.cramfs_image.proofs.Faults.{ArePlain}
use Rattle.cramfs_image.proofs.soundness.pointer_fault.Given as goal

abbrev pub invariant-loop-i : goal.invariant-loop-i
invariant-loop-i l = ArePlain l.b.order l.b.bytes.now l.at l.i
