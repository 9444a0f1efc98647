use Rattle.std.proofs.Common.{◌≡◌, ℕ, List, map, get_or, refl, sym, ap, ◌∙◌, arith}
use Rattle.rom_tree.specs.Image.{contents_of}
use Rattle.rom_tree.proofs.Named.{has_link}
use Rattle.path_walk.specs.Graft.{bytes_in}
use Rattle.path_walk.proofs.GraftNodes.{map_bytes, place_within, place_node}
use Rattle.path_walk.proofs.images.SeveralImages.link_text_in.Goals as goal

pub offset_bounds-images-place : goal.offset_bounds-images-place
offset_bounds-images-place g c = let b =
    place_within g.T.Viewed.image c.args.self.now.images.now c.args.place.image c.args.place.node.0 c.requires.0.node
    c.requires.1.node in omega (arith, b)

pub bounds-images-place : goal.bounds-images-place
bounds-images-place g c = place_within g.T.Viewed.image c.args.self.now.images.now c.args.place.image
    c.args.place.node.0 c.requires.0.node c.requires.1.node

pub link_text-requires : goal.link_text-requires
link_text-requires g c κs =
    let y = c.index-images-place.result in (
      (refl, tt),
      has_link (g.T.Viewed.image y) c.args.place.node.0 c.requires.0.node
          (place_node g.T.Viewed.image c.args.self.now.images.now c.args.place.image c.args.place.node.0 y
          c.requires.0.node c.index-images-place.is c.requires.1.node) c.requires.2,
    )

pub returns : goal.returns
returns g c = λ t h.
    let f = g.T.Viewed.image in
    let xs = c.args.self.now.images.now in
    let i : ℕ = c.args.place.image in
    let y = c.index-images-place.result in
    let w : bytes_in (map f xs) i ≡ (f (get_or xs i y)).bytes =
    map_bytes f xs i y (place_within g.T.Viewed.image c.args.self.now.images.now c.args.place.image
    c.args.place.node.0 c.requires.0.node c.requires.1.node) in
    let z : (f y).bytes ≡ bytes_in (map f xs) t.image =
    ap (λ v. (f v).bytes) c.index-images-place.is ∙ (sym w ∙ ap (bytes_in (map f xs)) h.image) in
    c.link_text.ensures t.node (place_node f xs i c.args.place.node.0 y t.node c.index-images-place.is h.node)
    ∙ ap (λ (v : List ℕ). contents_of v t.node) z
