use Rattle.std.proofs.Common.{◌≡◌, ℕ, List, take}
use Rattle.image_compare.specs.Directories.{AreWays}
use Rattle.image_compare.specs.Rows.{row_path}
use Rattle.image_compare.proofs.order.compare.Given as goal

-- the bytes before `at` are the same
abbrev pub invariant-loop-at : goal.invariant-loop-at
invariant-loop-at l = record {
  same : (ws : List (List ℕ)) → AreWays l.directories ws
      → take l.at (row_path ws l.one) ≡ take l.at (row_path ws l.other);
}
