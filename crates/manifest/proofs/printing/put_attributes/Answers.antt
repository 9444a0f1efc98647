use Rattle.rom_fields.proofs.Joins.{chain}
use Rattle.manifest.proofs.printing.put_attributes.Goals as goal

pub returns : goal.returns
returns g c =
    chain c.put_escaped.ensures (chain c.put.ensures (chain c.put_octal.ensures (chain c.put-2.ensures
    (chain c.put_decimal.ensures (chain c.put-3.ensures c.put_decimal-2.ensures)))))
