use Rattle.std.proofs.Common.{◌≡◌, true}
use Rattle.rom_tree.specs.Frames.{weight}
use Rattle.image_check.specs.Any.{any_view}
use Rattle.rom_c.specs.Visits.{IsVisit, frames_of, to_visit}
use Rattle.rom_c.proofs.visit.Visit.next.Given as goal

-- no node was returned since
abbrev pub invariant-loop-self : goal.invariant-loop-self
invariant-loop-self l = record {
  visit : IsVisit (any_view l.image) l.self;
  begun : l.self.begun ≡ true;
  nodes : to_visit (any_view l.image) l.self ≡ to_visit (any_view l.image) l.fn.self;
}

abbrev pub decreases-loop-self : goal.decreases-loop-self
decreases-loop-self l = weight (any_view l.image) (frames_of l.self.stack.items)
