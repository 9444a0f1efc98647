use Rattle.rom_fields.proofs.Joins.{chain}
use Rattle.map_forms.proofs.macros.put_front.Goals as goal

pub returns : goal.returns
returns g c = chain c.put_opening.ensures (chain c.put_name.ensures c.put_between.ensures)
