use Rattle.std.proofs.Common.{◌≡◌, ◌-◌, length, map}
use Rattle.path_patterns.specs.Reading.{part_of, parts_from, parts_of}
use Rattle.path_patterns.proofs.reading.pieces_of.Given as goal

abbrev pub invariant-loop-i : goal.invariant-loop-i
invariant-loop-i l =
    parts_from (length l.text - l.i) (map part_of l.pieces.items) l.rest ≡ parts_of l.text
