use Rattle.std.proofs.Common.{◌≡◌, ◌-◌, length, []}
use Rattle.path_patterns.specs.Reading.{ranges_from}
use Rattle.path_patterns.proofs.reading.ranges_of.Given as goal

abbrev pub invariant-loop-i : goal.invariant-loop-i
invariant-loop-i l =
    ranges_from (length l.inside - l.i) l.ranges.items l.rest ≡ ranges_from (length l.inside) [] l.inside
