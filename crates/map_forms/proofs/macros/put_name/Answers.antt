use Rattle.rom_fields.proofs.Joins.{chain}
use Rattle.map_forms.proofs.macros.put_name.Goals as goal

pub returns : goal.returns
returns g c = chain c.put.ensures (chain c.put_identifier.ensures c.put-2.ensures)
