use Rattle.std.proofs.Common.{◌≡◌, ◌-◌, length, drop}
use Rattle.path_patterns.specs.Patterns.{fits}
use Rattle.path_patterns.specs.Rows.{row_of}
use Rattle.path_patterns.proofs.matching.row_of_all.Given as goal

abbrev pub invariant-loop-k : goal.invariant-loop-k
invariant-loop-k l = l.row.items ≡ row_of (fits (drop (length l.pieces - l.k) l.pieces)) l.path
