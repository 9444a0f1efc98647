use Rattle.std.proofs.Common.{ℕ, ◌+◌, List}
use Rattle.image_compare.specs.Directories.{AreWays, IsFront, way_at}
use Rattle.image_compare.proofs.directories.meeting.Given as goal

-- both are on the way
abbrev pub invariant-loop-above : goal.invariant-loop-above
invariant-loop-above l = record {
  one : (ws : List (List ℕ)) → AreWays l.directories ws → IsFront (way_at ws l.above) (way_at ws l.one);
  other : (ws : List (List ℕ)) → AreWays l.directories ws → IsFront (way_at ws l.beside) (way_at ws l.other);
}

abbrev pub decreases-loop-above : goal.decreases-loop-above
decreases-loop-above l = l.above + l.beside
