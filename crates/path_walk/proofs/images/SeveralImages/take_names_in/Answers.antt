use Rattle.std.proofs.Common.{refl, arith}
use Rattle.rom_tree.proofs.Named.{has_node}
use Rattle.path_walk.proofs.GraftNodes.{place_within, place_node}
use Rattle.path_walk.proofs.Counted.{on_true, on_false}
use Rattle.path_walk.proofs.images.SeveralImages.take_names_in.Goals as goal

pub offset_bounds-images-place : goal.offset_bounds-images-place
offset_bounds-images-place g c = let b =
    place_within g.T.Viewed.image c.args.self.now.images.now c.args.place.image c.args.place.node.0 c.requires.0.node
    c.requires.1.node in omega (arith, b)

pub bounds-images-place : goal.bounds-images-place
bounds-images-place g c = place_within g.T.Viewed.image c.args.self.now.images.now c.args.place.image
    c.args.place.node.0 c.requires.0.node c.requires.1.node

pub take_names-requires : goal.take_names-requires
take_names-requires g c κs =
    let y = c.index-images-place.result in (
      (refl, tt),
      has_node (g.T.Viewed.image y) c.args.place.node.0 c.requires.0.node
          (place_node g.T.Viewed.image c.args.self.now.images.now c.args.place.image c.args.place.node.0 y
          c.requires.0.node c.index-images-place.is c.requires.1.node),
    )

pub returns-clause-taken : goal.returns-clause-taken
returns-clause-taken g c = on_true c.take_names.result (λ f s n.
    f s.node (place_node g.T.Viewed.image c.args.self.now.images.now c.args.place.image c.args.place.node.0
    c.index-images-place.result s.node c.index-images-place.is n.node)) c.take_names.ensures.taken

pub returns-clause-too_many : goal.returns-clause-too_many
returns-clause-too_many g c = on_false c.take_names.result (λ f s n.
    f s.node (place_node g.T.Viewed.image c.args.self.now.images.now c.args.place.image c.args.place.node.0
    c.index-images-place.result s.node c.index-images-place.is n.node)) c.take_names.ensures.too_many
