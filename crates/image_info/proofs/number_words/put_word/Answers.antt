use Rattle.image_info.specs.Description.{word}
use Rattle.image_info.proofs.number_words.put_word.Goals as goal

pub returns : goal.returns
unfolding word
returns g c = c.put.ensures
