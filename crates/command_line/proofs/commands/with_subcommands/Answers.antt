use Rattle.std.proofs.Common.{refl, sym, ap, ap₂, ◌∙◌, map, List, rules}
use Rattle.clap.specs.Words.{app_of, with_subcommand}
use Rattle.command_line.specs.Commands.{with_shapes}
use Rattle.command_line.specs.Table.{shape_named}
use Rattle.command_line.specs.declared.table.Subcommand.{Subcommand}
use Rattle.command_line.proofs.Rows.{with_sub}
use Rattle.command_line.proofs.Loops.{next_shape, whole}
use Rattle.command_line.proofs.commands.with_subcommands.Goals as goal

pub loop-row-init : goal.loop-row-init
loop-row-init c = refl

pub loop-row-preserved : goal.loop-row-preserved
loop-row-preserved c =
    with_sub _ _ _ _ _ c.in_ok-command.ensures c.loop-row.invariant c.in_ok-subcommand.ensures refl
    ∙ sym (next_shape (app_of c.args.command) c.args.rows.now c.loop-row.row-index _ c.loop-row-test.true)

pub returns : goal.returns
returns c =
    c.loop-row.invariant ∙ ap (λ (ws : List Subcommand). with_shapes (app_of c.args.command) (map shape_named ws))
    (whole c.args.rows.now c.loop-row.row-index c.loop-row-test.false)
