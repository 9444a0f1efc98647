use Rattle.std.proofs.Common.{◌≡◌, ◌+◌, ◌++◌, length, map}
use Rattle.std.specs.Prelude.{take}
use Rattle.rom_tree.specs.Tree.{ino_of, nodes}
use Rattle.image_check.specs.Any.{any_view}
use Rattle.rom_c.specs.Visits.{IsVisit, to_visit}
use Rattle.rom_c.proofs.linked.put_numbers.Given as goal

-- the numbers of the nodes that were met are written, and those to come are not
abbrev pub invariant-loop-found : goal.invariant-loop-found
invariant-loop-found l = record {
  visit : IsVisit (any_view l.image) l.visit;
  count : l.at + length (to_visit (any_view l.image) l.visit) ≡ length (nodes (any_view l.image).tree);
  room : length l.numbers ≡ length (nodes (any_view l.image).tree);
  written : take l.at l.numbers ++ map ino_of (to_visit (any_view l.image) l.visit)
      ≡ map ino_of (nodes (any_view l.image).tree);
}

abbrev pub decreases-loop-found : goal.decreases-loop-found
decreases-loop-found l = length (to_visit (any_view l.image) l.visit)
