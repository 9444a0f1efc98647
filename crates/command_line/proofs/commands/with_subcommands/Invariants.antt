use Rattle.std.proofs.Common.{◌≡◌, map, take}
use Rattle.clap.specs.Words.{app_of}
use Rattle.command_line.specs.Commands.{with_shapes}
use Rattle.command_line.specs.Table.{shape_named}
use Rattle.command_line.proofs.commands.with_subcommands.Given as goal

abbrev pub invariant-loop-row : goal.invariant-loop-row
invariant-loop-row l = app_of l.command ≡ with_shapes (app_of l.fn.command) (map shape_named (take l.row-index l.rows))
