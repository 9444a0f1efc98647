use Rattle.std.proofs.Common.{map, string_bytes, ap, subst, ◌∙◌}
use Rattle.std.specs.Prelude.{IfOk}
use Rattle.clap.specs.Words.{App, is_simple, subcommand_of}
use Rattle.command_line.proofs.Rows.{simple}
use Rattle.command_line.specs.Words.{IsAskedOf}
use Rattle.command_line.proofs.words.read.Goals as goal

pub returns-in-Ok-clause-asked : goal.returns-in-Ok-clause-asked
returns-in-Ok-clause-asked c = λ more.
    let app = c.in_ok-command.ensures in
    let parsed = (c.in-Ok.ensures.matches (ap is_simple app ∙ simple)).1 in
    let entered = parsed ∙ ap (λ (a : App). subcommand_of a (map string_bytes c.args.words.now)) app in
    subst (λ x. IfOk c.chosen.result (IsAskedOf x)) entered c.chosen.ensures
