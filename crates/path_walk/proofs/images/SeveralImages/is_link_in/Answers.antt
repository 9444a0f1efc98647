use Rattle.std.proofs.Common.{refl, arith}
use Rattle.rom_tree.proofs.Named.{has_node}
use Rattle.path_walk.proofs.GraftNodes.{place_within, place_node}
use Rattle.path_walk.proofs.images.SeveralImages.is_link_in.Goals as goal

pub offset_bounds-images-place : goal.offset_bounds-images-place
offset_bounds-images-place g c = let b =
    place_within g.T.Viewed.image c.args.self.now.images.now c.args.place.image c.args.place.node.0 c.requires.0.node
    c.requires.1.node in omega (arith, b)

pub bounds-images-place : goal.bounds-images-place
bounds-images-place g c = place_within g.T.Viewed.image c.args.self.now.images.now c.args.place.image
    c.args.place.node.0 c.requires.0.node c.requires.1.node

pub is_link_at-requires : goal.is_link_at-requires
is_link_at-requires g c κs =
    let y = c.index-images-place.result in (
      (refl, tt),
      has_node (g.T.Viewed.image y) c.args.place.node.0 c.requires.0.node
          (place_node g.T.Viewed.image c.args.self.now.images.now c.args.place.image c.args.place.node.0 y
          c.requires.0.node c.index-images-place.is c.requires.1.node),
    )

pub returns : goal.returns
returns g c = λ t h. c.is_link_at.ensures t.node
    (place_node g.T.Viewed.image c.args.self.now.images.now c.args.place.image c.args.place.node.0
    c.index-images-place.result t.node c.index-images-place.is h.node)
