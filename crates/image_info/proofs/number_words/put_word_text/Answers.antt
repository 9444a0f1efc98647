use Rattle.rom_fields.proofs.Joins.{chain}
use Rattle.image_info.specs.Description.{word_text}
use Rattle.image_info.proofs.number_words.put_word_text.Goals as goal

pub returns : goal.returns
unfolding word_text
returns g c =
    chain c.put_byte_text.ensures (chain c.put_byte_text-2.ensures
    (chain c.put_byte_text-3.ensures c.put_byte_text-4.ensures))
