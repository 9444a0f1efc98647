use Rattle.rom_tree.specs.Image.{Image}
use Rattle.rom_tree.specs.Walks.{to_come}
use Rattle.rom_tree.proofs.Listed.{fewer}
use Rattle.romtool.proofs.totals.programs_at_pages.Goals as goal

pub loop-node-init : goal.loop-node-init
loop-node-init g c = record { walk = c.new-walk.ensures.walk (g.T.Viewed.image c.args.image.now) c.requires.depth }

pub loop-node-preserved : goal.loop-node-preserved
loop-node-preserved g c = record { walk = c.in-Some.ensures.walk }

pub loop-node-smaller : goal.loop-node-smaller
loop-node-smaller g c =
    let m : Image = g.T.Viewed.image c.args.image.now in
    let n = c.in-Some.ensures.given in
    fewer n.name (to_come m c.loop-node.walk) (to_come m c.next.new.self) n.first
