use Rattle.rom_fields.proofs.Joins.{chain}
use Rattle.rom_commands.proofs.ending.put_file.Goals as goal

pub returns : goal.returns
returns g c = chain c.put.ensures (chain c.put_escaped.ensures c.put-2.ensures)
