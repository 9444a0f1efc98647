use Rattle.path_walk.proofs.GraftNodes.{one_node}
use Rattle.path_walk.proofs.images.OneImages.find_in.Goals as goal

pub returns-clause-found : goal.returns-clause-found
returns-clause-found g c = λ t h.
    c.lookup.ensures.found t.node (one_node
    (g.T.Viewed.image c.args.self.now.image.now) c.args.place.image c.args.place.node.0 t.node h.node)
