use Rattle.std.proofs.Common.{◌≡◌, ◌-◌, length, drop, []}
use Rattle.path_patterns.specs.Patterns.{fits}
use Rattle.path_patterns.specs.Rows.{row_of}
use Rattle.path_patterns.proofs.matching.row_of_none.Given as goal

abbrev pub invariant-loop-i : goal.invariant-loop-i
invariant-loop-i l = l.row.items ≡ row_of (fits []) (drop (length l.path - l.i) l.path)
