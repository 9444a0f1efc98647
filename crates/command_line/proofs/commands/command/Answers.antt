use Rattle.std.proofs.Common.{◌≡◌, Result, Ok, Err, IfOk, ap, ◌∙◌, refl, List}
use Rattle.clap.specs.Words.{App, Shape, app_of}
use Rattle.clap.specs.declared.builder.command.Command.{Command}
use Rattle.command_line.specs.Commands.{building_shapes, other_shapes, reading_shapes, with_shapes}
use Rattle.command_line.proofs.commands.command.Goals as goal

onto : {E : Type 0} (r : Result Command E) (a b : App) (ss : List Shape) → a ≡ b
    → IfOk r (λ c. app_of c ≡ with_shapes a ss) → IfOk r (λ c. app_of c ≡ with_shapes b ss)
onto (Ok c) a b ss e h = h ∙ ap (λ (x : App). with_shapes x ss) e
onto (Err _) a b ss e h = tt

pub returns : goal.returns
returns c = onto _ _ _ other_shapes
    (c.in_ok-with_building.ensures ∙ ap (λ (x : App). with_shapes x building_shapes)
    (c.in_ok-reading.ensures ∙ ap (λ (x : App). with_shapes x reading_shapes) c.in_ok-top.ensures))
    c.with_others.ensures
