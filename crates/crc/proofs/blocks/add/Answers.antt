use Rattle.std.proofs.Common.{◌-◌, length, sym, ◌∙◌, arith}
use Rattle.std.proofs.lemmas.List.{length-set}
use Rattle.crc.specs.Crc.{after_bytes}
use Rattle.crc.specs.History.{added}
use Rattle.crc.proofs.Ends.{adds, added_all}
use Rattle.crc.proofs.blocks.add.Goals as goal

pub loop-i-preserved : goal.loop-i-preserved
loop-i-preserved c =
    let b = c.loop-i.bytes in
    let from = c.args.from.now in
    let r = c.loop-i.invariant.room in
    let q = c.requires in
    record {
      room = length-set b c.loop-i.i _ ∙ r;
      sum = adds b from c.loop-i.i (length c.args.bytes.now - length from) (omega arith) c.loop-i-test.true
          (omega (arith, c.type_inv.from c.loop-i.i)) ∙ c.loop-i.invariant.sum;
    }

pub returns : goal.returns
unfolding added
returns c = sym (added_all (after_bytes 0 c.loop-i.bytes) c.args.from.now c.loop-i.i
    (length c.args.bytes.now - length c.args.from.now) c.loop-i-test.false) ∙ c.loop-i.invariant.sum
