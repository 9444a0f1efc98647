use Rattle.image_stream.proofs.Weights.{balance_value}
use Rattle.image_stream.proofs.word_sum.WordSumChecksum.value.Goals as goal

pub returns : goal.returns
returns c = λ xs h. balance_value c.args.self.now.place c.args.self.now.sum xs h
