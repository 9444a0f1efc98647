use Rattle.rom_fields.proofs.Joins.{chain}
use Rattle.image_info.specs.Description.{words_by}
use Rattle.image_info.proofs.number_writing.put_words.Goals as goal

pub returns : goal.returns
unfolding words_by
returns g c =
    chain c.put_word.ensures (chain c.put_word-2.ensures
    (chain c.put_word-3.ensures (chain c.put_word-4.ensures
    (chain c.put_word-5.ensures (chain c.put_word-6.ensures
    (chain c.put_word-7.ensures (chain c.put_word-8.ensures
    (chain c.put_word-9.ensures c.put_word-10.ensures))))))))
