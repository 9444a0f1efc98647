use Rattle.std.proofs.Common.{◌≡◌, ◌≤◌, length, drop}
use Rattle.path_patterns.specs.Patterns.{fits}
use Rattle.path_patterns.proofs.matching.front_of.Given as goal

abbrev pub invariant-loop-n : goal.invariant-loop-n
invariant-loop-n l = (l.n ≤ length l.path) × (fits l.pieces l.path ≡ fits (drop l.n l.pieces) (drop l.n l.path))
