use Rattle.std.proofs.Common.{◌∙◌, ap}
use Rattle.formats.specs.Format.{name_of}
use Rattle.rom_commands.proofs.shown.format_name.Goals as goal

pub returns : goal.returns
returns c = c.as_bytes.ensures.value ∙ (c.name.ensures ∙ ap name_of c.format.ensures.is)
