use Rattle.std.proofs.Common.{◌≡◌, ◌+◌, length}
use Rattle.rom_tree.specs.Tree.{nodes}
use Rattle.image_check.specs.Any.{any_view}
use Rattle.rom_c.specs.Visits.{IsVisit, to_visit}
use Rattle.rom_c.proofs.linked.count_names.Given as goal

-- the names that were met are counted, and those to come are not
abbrev pub invariant-names : goal.invariant-names
invariant-names l = record {
  visit : IsVisit (any_view l.image) l.visit;
  count : l.count + length (to_visit (any_view l.image) l.visit) ≡ length (nodes (any_view l.image).tree);
}

abbrev pub decreases-names : goal.decreases-names
decreases-names l = length (to_visit (any_view l.image) l.visit)
