use Rattle.std.proofs.Common.{◌-◌, ◌≤◌, length, take}
use Rattle.std.specs.Io.KnownBytes.{Consumes}
use Rattle.image_compare.proofs.dump.compare.Given as goal

-- the bytes before `at` were read
abbrev pub invariant-loop-at : goal.invariant-loop-at
invariant-loop-at g l = record {
  within : l.at ≤ length l.image;
  read : Consumes (g.R.Read.remaining l.fn.dump) (g.R.Read.remaining l.dump) (take l.at l.image);
}

abbrev pub decreases-loop-at : goal.decreases-loop-at
decreases-loop-at g l = length l.image - l.at
