use Rattle.std.proofs.Common.{◌≡◌, ◌∙◌, ap, subst, IfOk, Bool, Option, List, map}
use Rattle.std.specs.Option.{is_some}
use Rattle.build_commands.specs.Equal.{first_of, same_shape, shapes}
use Rattle.build_commands.specs.declared.equal.Shape.{Shape}
use Rattle.build_commands.proofs.Grouped.{sharing}
use Rattle.build_commands.proofs.equal.to_compare.Goals as goal

pub returns : goal.returns
returns c =
    let all : List (Option Shape) = shapes c.args.found.now c.args.lens.now in
    let is : c.deref.result.now ≡ all = c.deref.ensures.value ∙ c.in_ok-shapes.ensures in
    subst (λ (v : List Bool). IfOk c.are_there.result (λ r. r.items ≡ v))
    (ap (map is_some) (c.deref-2.ensures.value ∙ c.in_ok-firsts.ensures
    ∙ ap (λ (v : List (Option Shape)). map (first_of same_shape v) v) is)
    ∙ sharing same_shape all all)
    c.are_there.ensures
