use Rattle.std.proofs.Common.{◌∙◌, sym, arith}
use Rattle.cramfs_image.proofs.Zeros.{zero_less, none_less}
use Rattle.cramfs_image.proofs.fields.cut_zeros.Goals as goal

pub returns-then-bytes-len-ne0 : goal.returns-then-bytes-len-ne0
returns-then-bytes-len-ne0 c = sym (none_less c.args.bytes.now c.loop-len.len c.loop-len-test.true
    c.loop-len.invariant.within c.if-bytes-len-ne0.true) ∙ c.loop-len.invariant.same

pub loop-len-preserved : goal.loop-len-preserved
loop-len-preserved c =
    let w = c.loop-len.invariant.within in record {
      within = omega arith;
      same = sym (zero_less c.args.bytes.now c.loop-len.len c.loop-len-test.true w c.if-bytes-len-ne0.false)
          ∙ c.loop-len.invariant.same;
    }
