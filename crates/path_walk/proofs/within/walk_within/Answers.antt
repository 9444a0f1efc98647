use Rattle.std.proofs.Common.{Ok, Some, Err, ◌≡◌, [], ◌∷◌, ℕ, refl, arith, MatchResult}
use Rattle.rom_tree.specs.Tree.{Node}
use Rattle.rom_tree.specs.Image.{Image, image_node}
use Rattle.path_walk.specs.declared.error.WithinError.{WithinError}
use Rattle.path_walk.specs.Resolution.{resolution, tree_namespace}
use Rattle.path_walk.specs.Compared.{names_compared, IsRefusedBy, AreTaken, Leaves}
use Rattle.path_walk.proofs.Alike.{no_mounts, one_shallow, one_ok, refused_alone, left_alone}
use Rattle.path_walk.proofs.Answered.{handed_on}
use Rattle.path_walk.proofs.within.walk_within.Goals as goal

pub find_place-found-requires : goal.find_place-found-requires
find_place-found-requires g c κs =
    let m : Image = g.T.Viewed.image c.args.image.now in
    ((refl, tt), (no_mounts (m ∷ []), (omega arith, (omega arith, (omega arith, one_shallow m c.requires)))))

pub returns-clause-leads : goal.returns-clause-leads
returns-clause-leads g c =
    let m : Image = g.T.Viewed.image c.args.image.now in
    let r = c.in_ok-found.ensures.ends.0 in
    one_ok m c.in_ok-found.field-0 r.0 c.args.path.now c.args.follow_last r.1 r.2

pub returns-in_err-found-clause-leads : goal.returns-in_err-found-clause-leads
returns-in_err-found-clause-leads g c =
    let m : Image = g.T.Viewed.image c.args.image.now in
    let all = resolution (tree_namespace m.bytes m.tree) c.args.path.now c.args.follow_last in
    let e : WithinError = c.in_err-found.field-0.0 in
    handed_on (λ r. MatchResult r (λ n. (x : Node) × (all ≡ Ok x) × (image_node m n.0 ≡ Some x)) (IsRefusedBy all))
    c.from_residual.result e c.from_residual.ensures.1
    (refused_alone m _ _ e c.args.path.now c.args.follow_last c.in_err-found.ensures.ends)

pub returns-clause-left : goal.returns-clause-left
returns-clause-left g c = left_alone (g.T.Viewed.image c.args.image.now) c.args.budget.now c.left.result
    c.find_place-found.new.purse c.args.path.now c.args.follow_last (Ok c.in_ok-found.field-0) c.left.ensures
    c.in_ok-found.ensures.ends

pub returns-in_err-found-clause-left : goal.returns-in_err-found-clause-left
returns-in_err-found-clause-left g c =
    let m : Image = g.T.Viewed.image c.args.image.now in
    let n : ℕ = names_compared (tree_namespace m.bytes m.tree) c.args.path.now c.args.follow_last in
    let b : ℕ = c.args.budget.now in
    let l : ℕ = c.left.result in
    let e : WithinError = c.in_err-found.field-0.0 in
    handed_on (λ r. MatchResult r (λ v. AreTaken b l n) (Leaves b l n)) c.from_residual.result e
    c.from_residual.ensures.1 (left_alone m b l c.find_place-found.new.purse c.args.path.now c.args.follow_last (Err e)
    c.left.ensures c.in_err-found.ensures.ends)
