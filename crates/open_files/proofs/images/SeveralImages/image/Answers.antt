use Rattle.std.proofs.Common.{◌≡◌, ◌<◌, length, get_or, ap, ◌∙◌, arith}
use Rattle.open_files.proofs.Standing.{place_below, image_in}
use Rattle.open_files.proofs.images.SeveralImages.image.Goals as goal

pub image_of-requires : goal.image_of-requires
image_of-requires g c =
    let b = place_below g.T.Viewed.image c.args.self.now.images.now.items c.args.self.now.mounts.now.items c.args.image
    c.requires in
    omega (arith, b, ap length c.as_slice.ensures.value)

pub returns : goal.returns
returns g c =
    let xs = c.args.self.now.images.now.items in
    let b : c.args.image < length xs =
    place_below g.T.Viewed.image xs c.args.self.now.mounts.now.items c.args.image c.requires in
    let y = c.image_of.result.now in
    let e : y ≡ get_or xs c.args.image y =
    c.image_of.ensures ∙ ap (λ z. get_or z c.args.image y) c.as_slice.ensures.value in
    image_in g.T.Viewed.image xs c.args.self.now.mounts.now.items c.args.image y e b
