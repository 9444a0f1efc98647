use Rattle.rom_fields.proofs.Joins.{chain}
use Rattle.image_info.specs.Description.{byte_text}
use Rattle.image_info.proofs.number_words.put_byte_text.Goals as goal

pub returns : goal.returns
unfolding byte_text
returns g c = chain c.put.ensures (chain c.put_decimal.ensures c.put-2.ensures)
