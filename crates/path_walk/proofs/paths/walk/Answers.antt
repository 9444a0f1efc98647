use Rattle.std.proofs.Common.{Ok, Some, Err, ◌≡◌, [], ◌∷◌, refl, arith, MatchResult}
use Rattle.rom_tree.specs.Tree.{Node}
use Rattle.rom_tree.specs.Image.{Image, image_node}
use Rattle.path_walk.specs.declared.error.WalkError.{WalkError}
use Rattle.path_walk.specs.Resolution.{resolution, tree_namespace}
use Rattle.path_walk.proofs.Alike.{no_mounts, one_shallow, one_ok, one_err}
use Rattle.path_walk.proofs.Answered.{handed_on}
use Rattle.path_walk.proofs.paths.walk.Goals as goal

pub find_unlimited-requires : goal.find_unlimited-requires
find_unlimited-requires g c κs =
    let m : Image = g.T.Viewed.image c.args.image.now in
    ((refl, tt), (no_mounts (m ∷ []), (omega arith, (omega arith, (omega arith, one_shallow m c.requires)))))

pub returns-clause-leads : goal.returns-clause-leads
returns-clause-leads g c =
    let m : Image = g.T.Viewed.image c.args.image.now in
    let r = c.in_ok-place.ensures.leads in
    one_ok m c.in_ok-place.place r.0 c.args.path.now c.args.follow_last r.1 r.2

pub returns-in_err-place-clause-leads : goal.returns-in_err-place-clause-leads
returns-in_err-place-clause-leads g c =
    let m : Image = g.T.Viewed.image c.args.image.now in
    let all = resolution (tree_namespace m.bytes m.tree) c.args.path.now c.args.follow_last in
    let e : WalkError = c.in_err-place.field-0.0 in
    handed_on (λ r. MatchResult r (λ n. (x : Node) × (all ≡ Ok x) × (image_node m n.0 ≡ Some x)) (λ v. all ≡ Err v))
    c.from_residual.result e c.from_residual.ensures.1
    (one_err m e c.args.path.now c.args.follow_last c.in_err-place.ensures.leads)
