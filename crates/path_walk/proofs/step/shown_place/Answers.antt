use Rattle.std.proofs.Common.{◌≡◌, sym, ◌∙◌, ap, List, Some, None, refl}
use Rattle.std.specs.Prelude.{find}
use Rattle.rom_tree.specs.Tree.{ino_of}
use Rattle.rom_tree.specs.Image.{Image}
use Rattle.path_walk.specs.declared.mount.Mount.{Mount}
use Rattle.path_walk.specs.declared.mount.Location.{Location}
use Rattle.path_walk.specs.Graft.{covers, tree_in}
use Rattle.path_walk.proofs.Mounts.{find_member, good_mount}
use Rattle.path_walk.proofs.GraftNodes.{none_some}
use Rattle.path_walk.proofs.Trails.{shown_named, same_cover}
use Rattle.path_walk.proofs.step.shown_place.Goals as goal

pub returns-in-None : goal.returns-in-None
returns-in-None g c = λ s i.
    let ms : List Image = (g.G.Gathered.held c.args.images.now).images in
    let us : List Mount = c.args.mounts.now in
    let p : Location = record { image = c.args.image; node = c.args.node } in
    let w : find (covers s.image (ino_of s.node)) us ≡ None = same_cover ms us p s i ∙ sym c.in-None.ensures in
    shown_named ms us p p s c.requires i (λ e. refl) (λ u e. absurd (none_some u (sym w ∙ e)))

pub root_in-requires : goal.root_in-requires
root_in-requires g c κs =
    let ms : List Image = (g.G.Gathered.held c.args.images.now).images in
    let us : List Mount = c.args.mounts.now in (
      (refl, tt),
      (good_mount ms us c.in-Some.mount c.requires
          (find_member (covers c.args.image c.args.node.0) us c.in-Some.mount (sym c.in-Some.ensures)).0).image,
    )

pub returns-in-Some : goal.returns-in-Some
returns-in-Some g c = λ s i.
    let ms : List Image = (g.G.Gathered.held c.args.images.now).images in
    let us : List Mount = c.args.mounts.now in
    let p : Location = record { image = c.args.image; node = c.args.node } in
    let q : Location = record { image = c.in-Some.mount.image; node = c.root_in.result } in
    let w : find (covers s.image (ino_of s.node)) us ≡ Some c.in-Some.mount =
    same_cover ms us p s i ∙ sym c.in-Some.ensures in
    shown_named ms us p q s c.requires i (λ e. absurd (none_some c.in-Some.mount (sym e ∙ w)))
    (λ v e.
    let same : c.in-Some.mount ≡ v = cc in
    (ap (λ (u : Mount). u.image) same, λ l. c.root_in.ensures ∙ ap (λ (u : Mount). ino_of (tree_in ms u.image)) same))
