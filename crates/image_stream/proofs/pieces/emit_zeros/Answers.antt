use Rattle.std.proofs.Common.{◌≡◌, ◌-◌, take, length, length-take, ◌∙◌, ap, arith}
use Rattle.image_stream.specs.Segments.{zeros}
use Rattle.image_stream.proofs.Zeros.{some_zeros, gone_zeros, broken_zeros}
use Rattle.image_stream.proofs.pieces.emit_zeros.Goals as goal

pub returns-in-Err-clause-front : goal.returns-in-Err-clause-front
returns-in-Err-clause-front g c =
    let inv = c.loop-left.invariant in
    let m : length (take c.min-most.result c.args.buffer.now) ≡ c.min-most.result =
    length-take c.min-most.result c.args.buffer.now ∙ omega arith in
    let ys : take c.min-n.result c.clear.new.out ≡ zeros c.min-n.result =
    some_zeros c.clear.new.out c.min-most.result c.min-n.result (c.clear.ensures ∙ ap zeros m) (omega arith) in
    broken_zeros (c.args.count - c.loop-left.left) c.min-n.result c.args.count _ _ _ inv.gone.bytes
    (take c.min-n.result c.clear.new.out) (omega arith) inv.gone.are ys inv.gone.written c.in-Err.ensures.text

pub loop-left-preserved : goal.loop-left-preserved
loop-left-preserved g c =
    let inv = c.loop-left.invariant in
    let m : length (take c.min-most.result c.args.buffer.now) ≡ c.min-most.result =
    length-take c.min-most.result c.args.buffer.now ∙ omega arith in
    let ys : take c.min-n.result c.clear.new.out ≡ zeros c.min-n.result =
    some_zeros c.clear.new.out c.min-most.result c.min-n.result (c.clear.ensures ∙ ap zeros m) (omega arith) in
    record {
      within = omega arith;
      loan = c.put.ensures.loan ∙ inv.loan;
      wrote = c.in-Ok.ensures.count ∙ inv.wrote;
      gone = gone_zeros (c.args.count - c.loop-left.left) c.min-n.result
          (c.args.count - (c.loop-left.left - c.min-n.result)) _ _ _ _ _ _ (take c.min-n.result c.clear.new.out)
          (omega arith) ys inv.gone c.in-Ok.ensures.text c.put.ensures.sum;
    }
