use Rattle.std.proofs.Common.{sym, ◌∙◌}
use Rattle.rom_tree.specs.Image.{Image}
use Rattle.image_check.specs.Any.{any_view}
use Rattle.rom_c.proofs.Visits.{found_visited, over, empty_by}
use Rattle.rom_c.proofs.visit.Visit.next.Goals as goal

pub returns-in-Some-clause-given : goal.returns-in-Some-clause-given
returns-in-Some-clause-given c =
    let m : Image = any_view c.args.image.now in
    let i = c.loop-self.invariant in
    found_visited m c.args.self.now c.loop-self.self _ c.in-Some.found.0 i.nodes i.begun i.begun c.in-Some.ensures

pub returns-clause-given : goal.returns-clause-given
returns-clause-given c =
    let m : Image = any_view c.args.image.now in
    let i = c.loop-self.invariant in
    over m c.args.self.now c.loop-self.self i.nodes i.begun
    (empty_by c.loop-self.self.stack.items (sym c.is_empty.ensures ∙ c.loop-self-test.false))
