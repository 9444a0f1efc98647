use Rattle.std.proofs.Common.{arith}
use Rattle.image_stream.proofs.Weights.{sum_counted}
use Rattle.image_stream.proofs.word_sum.WordSumChecksum.add.Goals as goal

pub returns : goal.returns
returns c = λ xs h. sum_counted c.args.self.now.place c.args.self.now.sum c.with_bytes.result.place
    c.with_bytes.result.sum c.min-counted.result xs c.args.bytes.now (λ short. omega arith) h
    (c.with_bytes.ensures xs h)
