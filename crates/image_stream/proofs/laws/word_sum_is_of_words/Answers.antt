use Rattle.image_stream.proofs.ByWords.{balance_words}
use Rattle.image_stream.proofs.laws.word_sum_is_of_words.Goals as goal

pub returns : goal.returns
returns c = balance_words
