use Rattle.rom_fields.proofs.Joins.{chain}
use Rattle.image_info.proofs.line.put_word.Goals as goal

pub returns : goal.returns
returns g c = chain c.put.ensures (chain c.put-2.ensures (chain c.put_eight_digits.ensures c.put-3.ensures))
