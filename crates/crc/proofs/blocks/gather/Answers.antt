use Rattle.std.proofs.Common.{◌≡◌, ◌+◌, ◌<◌, ℕ, take, drop, length, get_or, refl, sym, ap, ◌∙◌, arith}
use Rattle.std.proofs.lemmas.List.{length-set}
use Rattle.crc.specs.History.{after_history}
use Rattle.crc.proofs.Gathers.{gathers, gathered, small_set, small_sum}
use Rattle.crc.proofs.blocks.gather.Goals as goal

pub loop-i-preserved : goal.loop-i-preserved
loop-i-preserved c =
    let b = c.loop-i.buf in
    let bytes = c.args.bytes.now in
    let i = c.loop-i.i in
    let r = c.loop-i.invariant.room in
    let q = c.requires in
    let s = c.loop-i.invariant.small in
    let x : get_or bytes i 0 < 256 = omega (arith, c.type_inv.bytes i) in
    let low = small_sum _ _ _ _ _ x (s (i + 155)) (s (i + 117)) (s (i + 89)) (s i) in
    record {
      room = length-set b (i + 300) _ ∙ r;
      small = small_set b (i + 300) _ low s;
      same = λ next long. gathers b bytes next i _ c.loop-i-test.true (omega arith) long s x low refl
          ∙ c.loop-i.invariant.same next long;
    }

pub returns : goal.returns
returns c = λ next long.
    let e : length c.args.bytes.now ≡ c.loop-i.i = omega arith in
    ap (λ (k : ℕ). after_history (take 300 (drop k c.loop-i.buf)) next) e
    ∙ sym (gathered (take 300 (drop c.loop-i.i c.loop-i.buf)) c.args.bytes.now next c.loop-i.i c.loop-i-test.false)
    ∙ c.loop-i.invariant.same next long
