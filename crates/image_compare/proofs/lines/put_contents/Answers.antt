use Rattle.rom_fields.proofs.Joins.{chain}
use Rattle.image_compare.proofs.lines.put_contents.Goals as goal

pub returns : goal.returns
returns g c =
    chain c.put.ensures (chain c.put_escaped.ensures (chain c.put-2.ensures (chain c.put_decimal.ensures
    (chain c.put-3.ensures (chain c.put_decimal-2.ensures c.put-4.ensures)))))
