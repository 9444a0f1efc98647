use Rattle.rom_fields.specs.Texts.{octal}
use Rattle.rom_fields.proofs.text.put_octal.Goals as goal

pub returns : goal.returns
unfolding octal
returns g c = c.put.ensures
