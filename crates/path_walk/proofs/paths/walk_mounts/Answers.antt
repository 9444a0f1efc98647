use Rattle.std.proofs.Common.{List, map}
use Rattle.rom_tree.specs.Image.{Image}
use Rattle.path_walk.proofs.Kept.{walk_uncovered}
use Rattle.path_walk.proofs.paths.walk_mounts.Goals as goal

pub returns-clause-uncovered : goal.returns-clause-uncovered
returns-clause-uncovered g c =
    let ms : List Image = map g.T.Viewed.image c.args.images.now in
    let r = c.in_ok-place.ensures.leads in
    walk_uncovered ms c.args.mounts.now c.requires.mounts c.args.path.now c.args.follow_last c.in_ok-place.place r.0 r.1
    r.2

pub returns-clause-leads : goal.returns-clause-leads
returns-clause-leads g c = c.in_ok-place.ensures.leads
