use Rattle.rom_fields.proofs.Joins.{chain}
use Rattle.serve_lines.proofs.reply.put_piece.Goals as goal

pub returns : goal.returns
returns g c =
    chain c.put.ensures (chain c.put_image.ensures (chain c.put_decimal.ensures (chain c.put-2.ensures
    (chain c.put_long_decimal.ensures (chain c.put-3.ensures (chain c.put_hex.ensures c.put-4.ensures))))))
