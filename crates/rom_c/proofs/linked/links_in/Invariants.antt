use Rattle.std.proofs.Common.{◌≡◌, ◌+◌, ◌==◌, length}
use Rattle.std.specs.List.{count_by}
use Rattle.rom_tree.specs.Tree.{ino_of}
use Rattle.image_check.specs.Any.{any_view}
use Rattle.rom_c.specs.Linked.{links_of}
use Rattle.rom_c.specs.Visits.{IsVisit, to_visit}
use Rattle.rom_c.proofs.linked.links_in.Given as goal

-- the nodes that were met are counted, and those to come are not
abbrev pub invariant-loop-found : goal.invariant-loop-found
invariant-loop-found l = record {
  visit : IsVisit (any_view l.image) l.visit;
  count : l.links + count_by (λ x. ino_of x == l.node.0) (to_visit (any_view l.image) l.visit)
      ≡ links_of (any_view l.image).tree l.node.0;
}

abbrev pub decreases-loop-found : goal.decreases-loop-found
decreases-loop-found l = length (to_visit (any_view l.image) l.visit)
