use Rattle.std.proofs.Common.{◌++◌, take, List, ℕ}
use Rattle.image_stream.specs.WordSums.{IsSum}
use Rattle.image_stream.proofs.word_sum.with_bytes.Given as goal

abbrev pub invariant-bytes : goal.invariant-bytes
invariant-bytes l =
    (xs : List ℕ) → IsSum l.fn.s.place l.fn.s.sum xs → IsSum l.sum.place l.sum.sum (xs ++ take l.x-index l.bytes)
