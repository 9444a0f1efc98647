use Rattle.std.proofs.Common.{◌∙◌}
use Rattle.clap.specs.Words.{found_of}
use Rattle.command_line.proofs.Rows.{value_is}
use Rattle.command_line.proofs.values.value_of.Goals as goal

pub returns : goal.returns
returns c = c.get_str.ensures ∙ value_is (found_of c.args.values.now) c.args.name.now
