use Rattle.std.proofs.Common.{◌≡◌, ℕ, ◌<◌, List, map, length, get_or, Some, refl, ap, rules}
use Rattle.rom_tree.specs.Image.{Image, image_node}
use Rattle.rom_tree.proofs.Named.{has_directory}
use Rattle.path_walk.specs.Graft.{MountedNode, node_in}
use Rattle.path_walk.proofs.GraftNodes.{node_below, map_node, map_set, map_below}
use Rattle.path_walk.proofs.images.SeveralImages.find_in.Goals as goal

pub offset_bounds-self-place : goal.offset_bounds-self-place
offset_bounds-self-place g c =
    let f = g.T.Viewed.image in
    let xs = c.args.self.now.images.now in
    let i : ℕ = c.args.place.image in
    let s : MountedNode = c.requires.0 in
    let e : node_in (map f xs) i c.args.place.node.0 ≡ Some s.node = c.requires.1.node in
    let b : i < length xs = map_below f xs i (node_below (map f xs) i c.args.place.node.0 s.node e) in
    search rules

pub bounds-self-place : goal.bounds-self-place
bounds-self-place g c =
    let f = g.T.Viewed.image in
    let xs = c.args.self.now.images.now in
    let i : ℕ = c.args.place.image in
    let s : MountedNode = c.requires.0 in
    let e : node_in (map f xs) i c.args.place.node.0 ≡ Some s.node = c.requires.1.node in
    let b : i < length xs = map_below f xs i (node_below (map f xs) i c.args.place.node.0 s.node e) in
    b

pub lookup-requires : goal.lookup-requires
lookup-requires g c κs =
    let f = g.T.Viewed.image in
    let xs = c.args.self.now.images.now in
    let i : ℕ = c.args.place.image in
    let s : MountedNode = c.requires.0 in
    let e : node_in (map f xs) i c.args.place.node.0 ≡ Some s.node = c.requires.1.node in
    let b : i < length xs = map_below f xs i (node_below (map f xs) i c.args.place.node.0 s.node e) in
    let y = c.index-self-place.result in
    let k : image_node (f (get_or xs i y)) c.args.place.node.0 ≡ Some s.node =
    map_node f xs i c.args.place.node.0 y s.node e in
    ((refl, tt), has_directory (f (get_or xs i y)) c.args.place.node.0 s.node k c.requires.2)

pub returns-clause-stays : goal.returns-clause-stays
returns-clause-stays g c =
    let f = g.T.Viewed.image in
    let xs = c.args.self.now.images.now in
    let i : ℕ = c.args.place.image in
    let y = c.index-self-place.result in
    ap (λ (v : List Image). record { images = v; loan = c.args.self.now.images.ghost_name })
    (map_set f xs i y c.lookup.new.self c.lookup.ensures.stays)

pub returns-clause-found : goal.returns-clause-found
returns-clause-found g c = λ t h.
    let f = g.T.Viewed.image in
    let xs = c.args.self.now.images.now in
    let i : ℕ = c.args.place.image in
    let y = c.index-self-place.result in
    c.lookup.ensures.found t.node (map_node f xs i c.args.place.node.0 y t.node h.node)
