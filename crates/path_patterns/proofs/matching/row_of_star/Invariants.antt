use Rattle.std.proofs.Common.{◌≡◌, ◌-◌, ℕ, Bool, List, length, drop}
use Rattle.path_patterns.specs.Patterns.{any_rest}
use Rattle.path_patterns.specs.Rows.{row_of}
use Rattle.path_patterns.proofs.matching.row_of_star.Given as goal

abbrev pub invariant-loop-i : goal.invariant-loop-i
invariant-loop-i l = (f : List ℕ → Bool) → l.behind ≡ row_of f l.path
    → (l.row.items ≡ row_of (any_rest f) (drop (length l.path - l.i) l.path))
    × (l.is_matched ≡ any_rest f (drop (length l.path - l.i) l.path))
