use Rattle.rom_fields.proofs.Joins.{chain}
use Rattle.image_info.specs.Description.{words_by}
use Rattle.image_info.proofs.number_writing.put_word_texts.Goals as goal

pub returns : goal.returns
unfolding words_by
returns g c =
    chain c.put_word_text.ensures (chain c.put_word_text-2.ensures
    (chain c.put_word_text-3.ensures (chain c.put_word_text-4.ensures
    (chain c.put_word_text-5.ensures (chain c.put_word_text-6.ensures
    (chain c.put_word_text-7.ensures (chain c.put_word_text-8.ensures
    (chain c.put_word_text-9.ensures c.put_word_text-10.ensures))))))))
