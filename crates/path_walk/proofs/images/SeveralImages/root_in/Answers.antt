use Rattle.std.proofs.Common.{◌≡◌, ℕ, ◌<◌, map, length, get_or, sym, ap, ◌∙◌}
use Rattle.rom_tree.specs.Tree.{ino_of}
use Rattle.path_walk.specs.Graft.{tree_in}
use Rattle.path_walk.proofs.GraftNodes.{map_tree, map_below}
use Rattle.path_walk.proofs.images.SeveralImages.root_in.Goals as goal

pub returns : goal.returns
returns g c =
    let f = g.T.Viewed.image in
    let xs = c.args.self.now.images.now in
    let i : ℕ = c.args.image in
    let y = c.index-images-image.result in
    let b : i < length xs = map_below f xs i c.requires in
    let w : tree_in (map f xs) i ≡ (f (get_or xs i y)).tree = map_tree f xs i y b in
    c.root.ensures ∙ (ap (λ v. ino_of (f v).tree) c.index-images-image.is ∙ ap ino_of (sym w))
