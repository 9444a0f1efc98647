use Rattle.std.proofs.Common.{◌≡◌, length}
use Rattle.std.specs.List.{find}
use Rattle.rom_tree.specs.Tree.{entries_of}
use Rattle.image_check.specs.Any.{any_view}
use Rattle.rom_c.specs.Linked.{entered_from, has_entry}
use Rattle.rom_c.specs.Visits.{IsVisit, to_visit}
use Rattle.rom_c.proofs.linked.entered_from.Given as goal

-- no node that was met has such an entry
abbrev pub invariant-loop-found : goal.invariant-loop-found
invariant-loop-found l = record {
  visit : IsVisit (any_view l.image) l.visit;
  none : find (λ x. has_entry l.node.0 (entries_of x)) (to_visit (any_view l.image) l.visit)
      ≡ entered_from (any_view l.image).tree l.node.0;
}

abbrev pub decreases-loop-found : goal.decreases-loop-found
decreases-loop-found l = length (to_visit (any_view l.image) l.visit)
