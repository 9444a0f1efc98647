use Rattle.rom_fields.proofs.Joins.{chain}
use Rattle.image_extents.specs.Lines.{range_text}
use Rattle.image_extents.proofs.lines.put_range.Goals as goal

pub returns : goal.returns
unfolding range_text
returns g c =
    chain c.put_address.ensures (chain c.put.ensures (chain c.put_long_decimal.ensures
    (chain c.put-2.ensures (chain c.put-3.ensures c.put-4.ensures))))
