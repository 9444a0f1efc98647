use Rattle.std.proofs.Common.{refl, sym, ◌∙◌}
use Rattle.rom_tree.specs.Image.{Image}
use Rattle.rom_tree.proofs.Walks.{found_given, over, empty_by}
use Rattle.rom_tree.proofs.frame.Walk.next.Goals as goal

pub returns-in-Some-clause-given : goal.returns-in-Some-clause-given
returns-in-Some-clause-given g c =
    let m : Image = g.T.Viewed.image c.args.image.now in
    let i = c.loop-self.invariant in
    found_given m c.args.self.now c.loop-self.self _ c.in-Some.found.name _ c.in-Some.found.node.0
    c.in-Some.found.entered i.names i.begun i.begun refl refl refl c.in-Some.ensures

pub returns-clause-given : goal.returns-clause-given
returns-clause-given g c =
    let m : Image = g.T.Viewed.image c.args.image.now in
    let i = c.loop-self.invariant in
    over m c.args.self.now c.loop-self.self i.names i.begun
    (empty_by c.loop-self.self.stack.items (sym c.is_empty.ensures ∙ c.loop-self-test.false))
