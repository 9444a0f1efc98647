use Rattle.std.proofs.Common.{◌≡◌, IfOk, Bool, map, subst}
use mathlib.Core.Path.{fun_ext}
use Rattle.build_commands.specs.Equal.{first_of}
use Rattle.build_commands.specs.declared.equal.Shape.{Shape}
use Rattle.build_commands.proofs.Keyed.{shapes_tested}
use Rattle.build_commands.proofs.equal.firsts_by_shape.Goals as goal

pub returns : goal.returns
returns c =
    subst (λ (same : Shape → Shape → Bool).
    IfOk c.firsts_of.result (λ v. v.items ≡ map (first_of same c.args.shapes.now) c.args.shapes.now))
    (fun_ext (λ x. fun_ext (λ y. shapes_tested x y))) c.firsts_of.ensures
