use Rattle.path_walk.proofs.GraftNodes.{one_node}
use Rattle.path_walk.proofs.Counted.{on_true, on_false}
use Rattle.path_walk.proofs.images.OneImages.take_names_in.Goals as goal

pub returns-clause-taken : goal.returns-clause-taken
returns-clause-taken g c = on_true c.take_names.result (λ f s n.
    f s.node (one_node
    (g.T.Viewed.image c.args.self.now.image.now) c.args.place.image c.args.place.node.0 s.node n.node))
    c.take_names.ensures.taken

pub returns-clause-too_many : goal.returns-clause-too_many
returns-clause-too_many g c = on_false c.take_names.result (λ f s n.
    f s.node (one_node
    (g.T.Viewed.image c.args.self.now.image.now) c.args.place.image c.args.place.node.0 s.node n.node))
    c.take_names.ensures.too_many
