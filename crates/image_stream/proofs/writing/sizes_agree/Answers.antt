use Rattle.std.proofs.Common.{arith}
use Rattle.image_stream.proofs.writing.sizes_agree.Goals as goal

pub returns-clause-ok : goal.returns-clause-ok
returns-clause-ok g c = λ k l.
    let n = c.files-file-end.ensures in
    let t = c.loop-file-test.false in
    c.loop-file.invariant k (omega arith)
