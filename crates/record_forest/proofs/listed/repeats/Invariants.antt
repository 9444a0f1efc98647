use Rattle.record_forest.proofs.Marked.{Marked}
use Rattle.record_forest.proofs.listed.repeats.Given as goal

abbrev pub invariant-loop-i : goal.invariant-loop-i
invariant-loop-i l = Marked l.fn.names.items l.names.items l.marks.items l.i
