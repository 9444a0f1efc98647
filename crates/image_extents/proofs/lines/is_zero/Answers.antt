use Rattle.std.proofs.Common.{◌∙◌, sym}
use Rattle.image_extents.proofs.Texts.{zero_more, zero_less, zero_end}
use Rattle.image_extents.proofs.lines.is_zero.Goals as goal

pub returns-then-byte-ne0 : goal.returns-then-byte-ne0
returns-then-byte-ne0 c =
    sym (zero_less c.args.bytes.now c.loop-byte.byte-index c.loop-byte-test.true c.if-byte-ne0.true)
    ∙ c.loop-byte.invariant

pub loop-byte-preserved : goal.loop-byte-preserved
loop-byte-preserved c =
    zero_more c.args.bytes.now c.loop-byte.byte-index c.loop-byte-test.true c.if-byte-ne0.false ∙ c.loop-byte.invariant

pub returns : goal.returns
returns c = sym (zero_end c.args.bytes.now c.loop-byte.byte-index c.loop-byte-test.false) ∙ c.loop-byte.invariant
