use Rattle.std.proofs.Common.{◌∙◌}
use Rattle.clap.specs.Words.{found_of}
use Rattle.command_line.proofs.Rows.{values_are}
use Rattle.command_line.proofs.values.values_of.Goals as goal

pub returns : goal.returns
returns c = c.get_strs.ensures ∙ values_are (found_of c.args.values.now) c.args.name.now
