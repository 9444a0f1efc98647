use Rattle.std.proofs.lemmas.Grind.{common_steps}
use Rattle.std.proofs.Common.{arith, refl, []}
use Rattle.std.proofs.Common.{◌≡◌, ◌++◌, take, drop}
use Rattle.image_stream.specs.Sources.{content_of}
use Rattle.image_stream.proofs.Answering.{of_more}
use Rattle.image_stream.proofs.slices.SlicesSources.read_at.Goals as goal

pub returns-then-len-at-clause-log : goal.returns-then-len-at-clause-log
returns-then-len-at-clause-log c = λ log h. of_more c.args.self.now.contents.now log c.args.file c.args.at 0 [] h refl

pub returns-clause-log : goal.returns-clause-log
returns-clause-log c = λ log h.
    let n = c.min-n.result in
    let bytes = take n (c.copy_from_slice.new.self ++ drop n c.args.buf.now) in
    let cs = c.args.self.now.contents.now in
    let e : bytes ≡ take n (drop c.args.at (content_of cs c.args.file)) = grind (arith, common_steps) in
    of_more cs log c.args.file c.args.at n bytes h e

pub returns-clause-bytes : goal.returns-clause-bytes
returns-clause-bytes c = grind (arith, common_steps)
