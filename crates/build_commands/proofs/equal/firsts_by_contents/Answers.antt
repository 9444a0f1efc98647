use Rattle.std.proofs.Common.{◌≡◌, IfOk, Bool, ℕ, List, map, subst}
use mathlib.Core.Path.{fun_ext}
use Rattle.build_commands.specs.Equal.{first_of}
use Rattle.build_commands.specs.declared.equal.Shape.{Shape}
use Rattle.build_commands.proofs.Keyed.{contents_tested}
use Rattle.build_commands.proofs.equal.firsts_by_contents.Goals as goal

pub returns : goal.returns
returns c =
    subst (λ (same : Shape × List ℕ → Shape × List ℕ → Bool).
    IfOk c.firsts_of.result (λ v. v.items ≡ map (first_of same c.args.contents.now) c.args.contents.now))
    (fun_ext (λ x. fun_ext (λ y. contents_tested x y))) c.firsts_of.ensures
